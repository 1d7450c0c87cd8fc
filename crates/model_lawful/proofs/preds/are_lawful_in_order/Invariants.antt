use Rattle.model_lawful.specs.Preds.{HasAllLawful}
use Rattle.model_lawful.proofs.Counting.{AreSoBelow}
use Rattle.model_lawful.proofs.preds.are_lawful_in_order.Given as goal

-- the predicates so far are lawful
abbrev pub invariant-loop-number : goal.invariant-loop-number
invariant-loop-number l = AreSoBelow (HasAllLawful l.model) l.preds l.number
