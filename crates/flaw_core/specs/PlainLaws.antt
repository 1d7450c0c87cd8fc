-- The laws of the rule of the stated order.
use Rattle.std.specs.Prelude.{ℕ, ◌≤◌, List, Some, Contains}
use Rattle.std.proofs.Common.{inl, inr}
use Rattle.model_core.specs.declared.decision.Decision.{Decision}
use Rattle.model_core.specs.declared.model.Model.{Model}
use Rattle.model_core.specs.State.{State}
use Rattle.plan_defs.specs.declared.plan.Plan.{Plan}
use Rattle.plan_defs.specs.Refusals.{IsAdmissible}
use Rattle.plan_defs.specs.Flaws as named
use Rattle.law_search.specs.Choices.{IsLeftOut}
use Rattle.law_search.specs.SearchLaws.{IsChoiceOf, IsPlanFor, AgreesWithSome, IsWithinBound}
use Rattle.law_search.proofs.Picking.{choice_admissible}
use Rattle.law_search.proofs.Covering.{choices_cover}
use Rattle.flaw_core.specs.declared.flaw.Flaw.{Flaw}
use Rattle.flaw_core.specs.declared.flaw.Flaw.TheVariants.{Token}
use Rattle.flaw_core.specs.Places.{IsFlawAt}
use Rattle.flaw_core.specs.Rules.{IsLeastFor, LeavesOut, IsCoveredBy, IsFirstAt, AreChoicesAt}

choice_of : (model : Model) (decisions : List Decision) (state : State) (bound : ℕ) (found : Flaw) (choices : List Decision)
    → IsLeastFor model decisions state → (first : IsFirstAt model decisions state (Some found))
    → AreChoicesAt model decisions state bound found choices → IsChoiceOf model decisions state bound first.0 choices
choice_of model decisions state bound found choices least (flaw, at, first) are =
    record { lawful = least.lawful; settled = least.settled; least = least.least; first = first; are = are flaw at }

left_of : (model : Model) (decisions : List Decision) (state : State) (bound : ℕ) (found : Flaw) (flaw : named.Flaw)
    → IsFlawAt state found flaw → IsLeftOut model decisions state bound flaw → LeavesOut model decisions bound found
left_of model decisions state bound (Token place) (named.Undecided token) at left = left
left_of model decisions state bound found (named.Undetermined name) at left = absurd left
left_of model decisions state bound found (named.Unordered one other) at left = absurd left
left_of model decisions state bound found (named.Untimed name) at left = absurd left
left_of model decisions state bound found flaw at left = absurd at

-- each choice of the first flaw is admissible
pub plain_admits : (model : Model) (decisions : List Decision) (state : State) (bound : ℕ) (flaw : Flaw) (choices : List Decision)
    (choice : Decision)
    → bound ≤ 512 → IsLeastFor model decisions state → IsFirstAt model decisions state (Some flaw)
    → AreChoicesAt model decisions state bound flaw choices → Contains choices choice → IsAdmissible model decisions choice
plain_admits model decisions state bound flaw choices choice few least first are there =
    choice_admissible model decisions state bound first.0 choices choice few
    (choice_of model decisions state bound flaw choices least first are) there

-- and they cover
pub plain_covers : (model : Model) (decisions : List Decision) (state : State) (bound : ℕ) (flaw : Flaw) (choices : List Decision)
    (plan : Plan)
    → IsLeastFor model decisions state → IsFirstAt model decisions state (Some flaw)
    → AreChoicesAt model decisions state bound flaw choices → IsPlanFor model decisions plan
    → IsCoveredBy model decisions bound flaw plan → AgreesWithSome model decisions choices plan
plain_covers model decisions state bound flaw choices plan least first are fits covered =
    choices_cover model decisions state bound first.0 choices plan
    (choice_of model decisions state bound flaw choices least first are) fits (within covered)
  where
    within : IsCoveredBy model decisions bound flaw plan → IsWithinBound model decisions state bound first.0 plan
    within (inl few) = inl few
    within (inr none) = inr (λ left. none (left_of model decisions state bound flaw first.0 first.1 left))
