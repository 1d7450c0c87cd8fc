use Rattle.std.specs.Prelude.{◌↔◌, length}
use Rattle.eu_forest.specs.Ancestors.{ancestry}
use Rattle.model_core.specs.Kinds.{IsUnder}
use Rattle.model_typing.proofs.classes.leads_to.Given as goal

-- what the walk has come to is under the other class if the first is
abbrev pub invariant-loop-next : goal.invariant-loop-next
invariant-loop-next l = IsUnder l.model l.next l.ancestor ↔ IsUnder l.model l.class l.ancestor

abbrev pub decreases-loop-next : goal.decreases-loop-next
decreases-loop-next l = length (ancestry l.parents l.next)
