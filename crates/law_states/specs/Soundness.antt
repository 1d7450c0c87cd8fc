-- What is proved of the plans of states without a flaw.
use Rattle.std.specs.Prelude.{◌≡◌, List, Contains}
use Rattle.eu_name.specs.declared.name.TokenName.{TokenName}
use Rattle.model_core.specs.declared.decision.Decision.{Decision}
use Rattle.model_core.specs.declared.model.Model.{Model}
use Rattle.model_core.specs.Blocks.{TokenBlock}
use Rattle.model_core.specs.Entries.{Entries}
use Rattle.model_core.specs.State.{State}
use Rattle.plan_defs.specs.declared.plan.Plan.{Plan}
use Rattle.plan_defs.specs.Broken.{AgreesWith}
use Rattle.plan_defs.specs.PlanStates.{IsPlanState}
use Rattle.plan_defs.specs.Refusals.{IsKnown}
use Rattle.plan_defs.specs.Closure.{IsClosed}
use Rattle.plan_defs.specs.Resources.{IsTokenComplete}
use Rattle.plan_defs.specs.Situations.{situation_of}
use Rattle.plan_defs.specs.Support.{IsSupportedToken, IsSupportedBlock}
use Rattle.plan_defs.specs.Valid.{IsValid}
use Rattle.plan_defs.specs.Flaws.{HasFlaw}
use Rattle.plan_defs.specs.StatePlans.{IsSettledState, IsStatePlan}

-- the state has what the decisions name, and nothing that isn't supported in it
pub record IsWellFounded (model : Model) (decisions : List Decision) (state : State) : Type 0 where
  pub known : (decision : Decision) → Contains decisions decision → IsKnown state decision
  pub tokens : (token : TokenName) → Contains state.tokens token → IsSupportedToken model (situation_of decisions state) token
  pub blocks : (block : TokenBlock) → Contains state.blocks block
      → (entries : Entries) × IsSupportedBlock model (situation_of decisions state) block entries

-- the plan is that of a founded state without a flaw, which is propagated for a settled list of a lawful model
pub record IsFlawlessPlan (model : Model) (decisions : List Decision) (state : State) (plan : Plan) : Type 0 where
  pub settled : IsSettledState model decisions state
  pub founded : IsWellFounded model decisions state
  pub flawless : HasFlaw model decisions state → ⊥
  pub is_plan : IsStatePlan model decisions state plan

-- such a plan agrees with the decisions
abbrev pub FlawlessPlansAgree : Type 0
FlawlessPlansAgree =
    (model : Model) (decisions : List Decision) (state : State) (plan : Plan)
    → IsFlawlessPlan model decisions state plan → AgreesWith model plan decisions

-- a state has one plan at most
abbrev pub StatesHaveOnePlan : Type 0
StatesHaveOnePlan =
    (model : Model) (decisions : List Decision) (state : State) (one other : Plan)
    → IsStatePlan model decisions state one → IsStatePlan model decisions state other → one ≡ other

-- where resources fit in the state, and so it is closed, the plan is valid
abbrev pub FlawlessPlansAreValid : Type 0
FlawlessPlansAreValid =
    (model : Model) (decisions : List Decision) (state : State) (plan : Plan)
    → IsFlawlessPlan model decisions state plan → IsClosed model decisions state → IsValid model plan

-- no further token can come in a state that has such a plan
abbrev pub FlawlessStatesAreComplete : Type 0
FlawlessStatesAreComplete =
    (model : Model) (decisions : List Decision) (state : State) (plan : Plan)
    → IsFlawlessPlan model decisions state plan → IsTokenComplete model decisions state

-- a state that has such a plan is the plan's own state
abbrev pub FlawlessStatesAreOwn : Type 0
FlawlessStatesAreOwn =
    (model : Model) (decisions : List Decision) (state : State) (plan : Plan)
    → IsFlawlessPlan model decisions state plan → IsPlanState model plan state
