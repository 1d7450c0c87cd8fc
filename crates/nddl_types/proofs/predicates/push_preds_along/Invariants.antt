use Rattle.std.proofs.Common.{◌≡◌, ◌++◌, drop}
use Rattle.std.specs.List.{flat_map}
use Rattle.nddl_hierarchy.specs.Facts.{facts_of}
use Rattle.nddl_types.specs.Predicates.{preds_at}
use Rattle.nddl_types.proofs.predicates.push_preds_along.Given as goal

-- the predicates so far and those of the classes that are left are all
abbrev pub invariant-loop-entry : goal.invariant-loop-entry
invariant-loop-entry l =
    l.preds ++ flat_map (preds_at (facts_of l.sources.basis) l.sources.enums.now l.class) (drop l.entry-index l.line)
    ≡ l.initial.preds ++ flat_map (preds_at (facts_of l.sources.basis) l.sources.enums.now l.class) l.line
