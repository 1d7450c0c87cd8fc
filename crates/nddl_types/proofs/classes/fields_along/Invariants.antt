use Rattle.std.proofs.Common.{◌≡◌, ◌++◌, drop}
use Rattle.std.specs.List.{flat_map}
use Rattle.nddl_hierarchy.specs.Facts.{facts_of}
use Rattle.nddl_types.specs.Classes.{fields_at}
use Rattle.nddl_types.proofs.classes.fields_along.Given as goal

-- the fields so far and those of the classes that are left are all
abbrev pub invariant-loop-entry : goal.invariant-loop-entry
invariant-loop-entry l =
    l.fields ++ flat_map (fields_at (facts_of l.sources.basis) l.sources.enums.now) (drop l.entry-index l.line)
    ≡ flat_map (fields_at (facts_of l.sources.basis) l.sources.enums.now) l.line
