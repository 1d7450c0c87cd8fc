use Rattle.std.proofs.Common.{rules, ap}
use Rattle.std.proofs.lemmas.Bool.Decides.{Decides-int_eq, Decides-like}
use Rattle.model_core.specs.declared.decision.ConArg.TheVariants.{Var, Value}
use Rattle.model_core.specs.declared.decision.Decision.TheVariants.{Specify, Activate, Merge, Reject, Order, Constrain, Relate}
use Rattle.model_core.proofs.Equality.{specified_told_apart, merges_told_apart, orders_told_apart, constraints_told_apart, relations_told_apart}
use Rattle.model_core.proofs.decision.decisions_are_told_apart.Goals as goal

pub returns-clause-kinds : goal.returns-clause-kinds
returns-clause-kinds c = λ one other. search rules

pub returns-clause-relations : goal.returns-clause-relations
returns-clause-relations c = λ one other. search rules

pub returns-clause-arguments : goal.returns-clause-arguments
returns-clause-arguments c (Var a) (Var b) = Decides-like _ (ap Var) (λ same. cc) (c.names_are_told_apart.ensures.variables a b)
returns-clause-arguments c (Value v) (Value w) = Decides-like _ (ap Value) (λ same. cc) (Decides-int_eq v w)
returns-clause-arguments c one other = (λ same. cc, λ same. cc)

pub returns-clause-lists : goal.returns-clause-lists
returns-clause-lists c = c.sequences_are_told_apart.ensures (returns-clause-arguments c)

pub returns-clause-decisions : goal.returns-clause-decisions
returns-clause-decisions c (Specify a v) (Specify b w) =
    specified_told_apart _ _ c.names_are_told_apart.ensures.variables (λ v w. Decides-int_eq v w) a b v w
returns-clause-decisions c (Activate a) (Activate b) = Decides-like _ (ap Activate) (λ same. cc) (c.names_are_told_apart.ensures.tokens a b)
returns-clause-decisions c (Merge a p) (Merge b q) = merges_told_apart _ c.names_are_told_apart.ensures.tokens a b p q
returns-clause-decisions c (Reject a) (Reject b) = Decides-like _ (ap Reject) (λ same. cc) (c.names_are_told_apart.ensures.tokens a b)
returns-clause-decisions c (Order a p) (Order b q) = orders_told_apart _ c.names_are_told_apart.ensures.tokens a b p q
returns-clause-decisions c (Constrain k xs) (Constrain l ys) = constraints_told_apart _ _ (returns-clause-kinds c) (returns-clause-lists c) k l xs ys
returns-clause-decisions c (Relate r a p) (Relate s b q) = relations_told_apart _ c.names_are_told_apart.ensures.tokens _ (returns-clause-relations c) r s a b p q
returns-clause-decisions c one other = (λ same. cc, λ same. cc)
