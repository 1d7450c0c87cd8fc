-- What a rule for flaws is asked, and what the rule of the stated order answers.
use Rattle.std.specs.Prelude.{ℕ, ◌≤◌, ◌⊎◌, List, Option, Some, None}
use Rattle.model_core.specs.declared.decision.Decision.{Decision}
use Rattle.model_core.specs.declared.model.Model.{Model}
use Rattle.model_core.specs.Lawful.{IsLawful}
use Rattle.model_core.specs.State.{State}
use Rattle.plan_defs.specs.declared.plan.Plan.{Plan}
use Rattle.plan_defs.specs.Closure.{IsLeast}
use Rattle.plan_defs.specs.Refusals.{AreActive}
use Rattle.plan_defs.specs.Settling.{IsSettled}
use Rattle.plan_defs.specs.Flaws as named
use Rattle.law_search.specs.Choices.{IsFirstFlaw, AreChoices}
use Rattle.law_search.specs.SwapLaws.{count_of_tokens}
use Rattle.flaw_core.specs.declared.flaw.Flaw.{Flaw}
use Rattle.flaw_core.specs.declared.flaw.Flaw.TheVariants.{Token}
use Rattle.flaw_core.specs.Places.{IsFlawAt}

-- the state is the least one of a settled list of decisions
pub record IsLeastFor (model : Model) (decisions : List Decision) (state : State) : Type 0 where
  pub lawful : IsLawful model
  pub settled : IsSettled model decisions
  pub least : IsLeast model decisions state

-- the flaw is a token, and it isn't activated, as so many tokens are active already
abbrev pub LeavesOut : Model → List Decision → ℕ → Flaw → Type 0
LeavesOut model decisions bound (Token place) = AreActive model decisions bound
LeavesOut model decisions bound flaw = ⊥

-- the plan has no more tokens than the bound, or no activation is left out
abbrev pub IsCoveredBy : Model → List Decision → ℕ → Flaw → Plan → Type 0
IsCoveredBy model decisions bound flaw plan = (count_of_tokens plan ≤ bound) ⊎ (LeavesOut model decisions bound flaw → ⊥)

-- at the places is the first flaw of the state, or it has none
abbrev pub IsFirstAt : Model → List Decision → State → Option Flaw → Type 0
IsFirstAt model decisions state None = named.HasFlaw model decisions state → ⊥
IsFirstAt model decisions state (Some found) =
    (flaw : named.Flaw) × IsFlawAt state found flaw × IsFirstFlaw model decisions state flaw

-- these are the choices of the flaw at the places
abbrev pub AreChoicesAt : Model → List Decision → State → ℕ → Flaw → List Decision → Type 0
AreChoicesAt model decisions state bound found choices =
    (flaw : named.Flaw) → IsFlawAt state found flaw → AreChoices model decisions state bound flaw choices
