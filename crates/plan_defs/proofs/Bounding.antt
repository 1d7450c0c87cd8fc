-- What a claim of order says of the ends.
use Rattle.std.proofs.Common.{List, [], ◌∷◌, ◌++◌, ℤ, ◌≤ℤ◌, refl, subst, arith}
use Rattle.std.specs.List.{AllZip}
use Rattle.std.proofs.lemmas.Int.{ints}
use Rattle.domain_core.specs.Domain.{Domain, IsDomain, IsWithin, least, greatest}
use Rattle.domain_core.proofs.Words.{tested_least, tested_greatest}
use Rattle.eu_name.specs.declared.name.VarName.{VarName}
use Rattle.model_core.specs.declared.decision.Decision.{Decision}
use Rattle.domain_core.specs.declared.kind.Kind.TheVariants.{Leq}
use Rattle.model_core.specs.declared.model.Model.{Model}
use Rattle.domain_core.specs.Consistency.{Ends, Admits, AreConsistent}
use Rattle.domain_core.specs.Constraints.{HoldsOf}
use Rattle.model_core.specs.State.{State, Gives, IsState, IsBelow}
use Rattle.plan_defs.specs.Claims.{IsClaim, at_most}
use Rattle.plan_defs.specs.Closure.{IsPropagatedState}
use Rattle.plan_defs.specs.Laws.{Lowered, EndsBounded}
use Rattle.plan_defs.specs.Terms.{Variable, HasDomain}
use Rattle.plan_defs.proofs.Lower.{least_rises, greatest_falls}
use Rattle.plan_defs.proofs.States.{gives_same, gives_domain}

-- the ends of both domains are in order
abbrev EndsInOrder : Domain → Domain → Type 0
EndsInOrder one other = (greatest one ≤ℤ greatest other) × (least one ≤ℤ least other)

above : (other : Domain) (value : ℤ) (left right : List ℤ) → AllZip (Admits Ends) [] left → AllZip (Admits Ends) (other ∷ []) right → HoldsOf Leq (left ++ value ∷ right) → value ≤ℤ greatest other
above other value (v ∷ left) right before after holds = absurd before
above other value [] [] before after holds = absurd after
above other value [] (w ∷ v ∷ right) before after holds = absurd after.1
above other value [] (w ∷ []) before after holds = omega (arith, ints, after.0.1, holds)

below : (one : Domain) (value : ℤ) (left right : List ℤ) → AllZip (Admits Ends) (one ∷ []) left → AllZip (Admits Ends) [] right → HoldsOf Leq (left ++ value ∷ right) → least one ≤ℤ value
below one value [] right before after holds = absurd before
below one value (w ∷ v ∷ left) right before after holds = absurd before.1
below one value (w ∷ []) (v ∷ right) before after holds = absurd after
below one value (w ∷ []) [] before after holds = omega (arith, ints, before.0.0, holds)

pub ends_in_order : (one other : Domain) → IsDomain one → IsDomain other → AreConsistent Ends (HoldsOf Leq) (one ∷ other ∷ []) → EndsInOrder one other
ends_in_order one other one_ok other_ok consistent =
    let high = consistent [] one (other ∷ []) (greatest one) refl (tested_greatest one one_ok) in
    let low = consistent (one ∷ []) other [] (least other) refl (tested_least other other_ok) in
    (above other (greatest one) high.0 high.1 high.2 high.3 high.4, below one (least other) low.0 low.1 low.2 low.3 low.4)

module _ (model : Model) (state : State) (ok : IsState model state) (one other : VarName) (one_is other_is : Domain) (gives_one : Gives state one one_is) (gives_other : Gives state other other_is) where
  claimed : (domains : List Domain) → AllZip (HasDomain (Gives state)) (Variable one ∷ Variable other ∷ []) domains → AreConsistent Ends (HoldsOf Leq) domains → EndsInOrder one_is other_is
  claimed [] have consistent = absurd have
  claimed (a ∷ []) have consistent = absurd have.1
  claimed (a ∷ b ∷ c ∷ domains) have consistent = absurd have.1.1
  claimed (a ∷ b ∷ []) have consistent =
      let first = gives_same state ok.order one a one_is have.0 gives_one in
      let second = gives_same state ok.order other b other_is have.1.0 gives_other in
      let ends = ends_in_order a b (gives_domain model state ok one a have.0) (gives_domain model state ok other b have.1.0) consistent in
      subst (λ d. EndsInOrder d other_is) first (subst (EndsInOrder a) second ends)

pub bounds_both : (model : Model) (decisions : List Decision) (high low : State) (one other : VarName)
    → IsState model high → IsPropagatedState model decisions low → IsBelow high low → IsClaim model decisions low (at_most (Variable one) (Variable other))
    → (first : Lowered high low one) (second : Lowered high low other) → EndsBounded first.above first.below second.above second.below
bounds_both model decisions high low one other high_ok fit lower claim first second =
    let low_ok = fit.is_state in
    let consistent = fit.claims (at_most (Variable one) (Variable other)) claim in
    let ends = claimed model low low_ok one other first.below second.below first.gives_below second.gives_below consistent.domains consistent.have consistent.agree in
    let one_below = lower.variables one first.above first.gives_above in
    let other_below = lower.variables other second.above second.gives_above in
    let one_same = gives_same low low_ok.order one one_below.0 first.below one_below.1 first.gives_below in
    let other_same = gives_same low low_ok.order other other_below.0 second.below other_below.1 second.gives_below in
    let one_low_ok = gives_domain model low low_ok one first.below first.gives_below in
    let other_low_ok = gives_domain model low low_ok other second.below second.gives_below in
    let rises = least_rises first.below first.above one_low_ok (gives_domain model high high_ok one first.above first.gives_above) (subst (λ d. IsWithin d first.above) one_same one_below.2) in
    let falls = greatest_falls second.below second.above other_low_ok (gives_domain model high high_ok other second.above second.gives_above) (subst (λ d. IsWithin d second.above) other_same other_below.2) in
    record { greatest_falls = omega (arith, ints, ends.0, falls); least_rises = omega (arith, ints, ends.1, rises) }
