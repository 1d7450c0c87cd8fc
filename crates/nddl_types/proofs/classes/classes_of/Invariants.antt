use Rattle.std.proofs.Common.{◌≡◌, ◌++◌, drop, map}
use Rattle.nddl_hierarchy.specs.Facts.{facts_of}
use Rattle.nddl_types.specs.Classes.{compiled_class}
use Rattle.nddl_types.proofs.classes.classes_of.Given as goal

-- the classes so far and those that are left are all
abbrev pub invariant-loop-entry : goal.invariant-loop-entry
invariant-loop-entry l =
    l.classes ++ map (compiled_class (facts_of l.sources.basis) l.sources.enums.now) (drop l.entry-index l.entries)
    ≡ l.initial.classes ++ map (compiled_class (facts_of l.sources.basis) l.sources.enums.now) l.entries
