-- A state has one plan.
use Rattle.std.proofs.Common.{◌≡◌, List}
use Rattle.eu_name.proofs.Orders.{var_order}
use Rattle.model_core.specs.declared.decision.Decision.{Decision}
use Rattle.model_core.specs.declared.model.Model.{Model}
use Rattle.model_core.specs.State.{State}
use Rattle.plan_defs.specs.declared.plan.Line.{Line}
use Rattle.plan_defs.specs.declared.plan.Plan.{Plan}
use Rattle.plan_defs.specs.Plans.{IsLineBefore, order_name}
use Rattle.eu_name.proofs.Ordered.{same_members}
use Rattle.plan_defs.specs.StatePlans.{IsStatePlan}
use Rattle.plan_defs.proofs.Stating.{same_lists}

irreflexive : (line : Line) → IsLineBefore line line → ⊥
irreflexive line before = var_order.irreflexive (order_name line) before

transitive : (a b c : Line) → IsLineBefore a b → IsLineBefore b c → IsLineBefore a c
transitive a b c first second = var_order.transitive (order_name a) (order_name b) (order_name c) first second

pub one_plan : (model : Model) (decisions : List Decision) (state : State) (one other : Plan) → IsStatePlan model decisions state one → IsStatePlan model decisions state other
    → one ≡ other
one_plan model decisions state one other p q = λ i. record { globals = globals i; lines = lines i }
  where
    globals : one.globals ≡ other.globals
    globals = same_lists one.globals other.globals (λ k v at. (q.globals k v).1 ((p.globals k v).0 at)) (λ k v at. (p.globals k v).1 ((q.globals k v).0 at))

    lines : one.lines ≡ other.lines
    lines = same_members IsLineBefore irreflexive transitive one.lines other.lines p.order q.order
        (λ line there. (q.lines line).1 ((p.lines line).0 there)) (λ line there. (p.lines line).1 ((q.lines line).0 there))
