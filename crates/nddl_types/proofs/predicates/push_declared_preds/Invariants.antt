use Rattle.std.proofs.Common.{◌≡◌, ◌++◌, drop}
use Rattle.std.specs.List.{filter_map}
use Rattle.nddl_hierarchy.specs.Facts.{facts_of}
use Rattle.nddl_types.specs.Predicates.{pred_of}
use Rattle.nddl_types.proofs.predicates.push_declared_preds.Given as goal

-- the predicates so far and those of the members that are left are all
abbrev pub invariant-loop-member : goal.invariant-loop-member
invariant-loop-member l =
    l.preds ++ filter_map (pred_of (facts_of l.sources.basis) l.sources.enums.now l.class) (drop l.member-index l.members)
    ≡ l.initial.preds ++ filter_map (pred_of (facts_of l.sources.basis) l.sources.enums.now l.class) l.members
