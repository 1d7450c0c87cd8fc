-- What the decisions leave possible: the closed states, and the least of them.
use Rattle.std.specs.Prelude.{List, Contains, ⊤}
use Rattle.domain_core.specs.Domain.{Domain, IsSingle}
use Rattle.eu_name.specs.declared.name.TokenName.{TokenName}
use Rattle.eu_name.specs.declared.name.VarName.{VarName}
use Rattle.model_core.specs.declared.decision.Decision.{Decision}
use Rattle.model_core.specs.declared.decision.Decision.TheVariants.{Specify}
use Rattle.model_core.specs.declared.model.Model.{Model}
use Rattle.model_core.specs.declared.variable.Base.{Base}
use Rattle.model_core.specs.Blocks.{TokenBlock}
use Rattle.model_core.specs.Entries.{Entries}
use Rattle.model_core.specs.State.{State, Gives, IsState, IsBelow}
use Rattle.model_core.specs.Variables.{HasBase, IsInBase}
use Rattle.plan_defs.specs.Claims.{Claim, IsClaim}
use Rattle.plan_defs.specs.Consistency.{IsClaimConsistent}
use Rattle.plan_defs.specs.Resources.{FitReusables, FitReservoirs}
use Rattle.plan_defs.specs.Situations.{situation_of}
use Rattle.plan_defs.specs.Support.{IsSupportedToken, IsSupportedBlock}
use Rattle.plan_defs.specs.Timelines.{FitTimelines}
use Rattle.model_core.specs.Decided.{IsActive, IsTaken, IsRejected}

-- the state grants the decision: a specified variable has that value alone
abbrev pub IsRespected : Decision → State → Type 0
IsRespected (Specify name value) state = (domain : Domain) → Gives state name domain → IsSingle domain value
IsRespected decision state = ⊤

-- each variable is within the domain that it is declared with
abbrev pub AreInBase : Model → State → Type 0
AreInBase model state =
    (name : VarName) (domain : Domain)
    → Gives state name domain → (base : Base) × HasBase model name base × IsInBase domain base

-- the state has all that is supported, within its bases, grants the decisions, all that is claimed is consistent in it, and
-- timelines fit; resources are left aside
pub record IsPropagatedState (model : Model) (decisions : List Decision) (state : State) : Type 0 where
  pub is_state : IsState model state
  pub tokens : (token : TokenName)
      → IsSupportedToken model (situation_of decisions state) token → Contains state.tokens token
  pub blocks : (block : TokenBlock) (entries : Entries)
      → IsSupportedBlock model (situation_of decisions state) block entries → Contains state.blocks block
  pub in_base : AreInBase model state
  pub respected : (decision : Decision) → Contains decisions decision → IsRespected decision state
  pub claims : (claim : Claim) → IsClaim model decisions state claim → IsClaimConsistent model state claim
  pub timelines : FitTimelines model decisions state

-- the state is propagated, and resources fit too
pub record IsClosed (model : Model) (decisions : List Decision) (state : State) : Type 0 where
  pub consistent : IsPropagatedState model decisions state
  pub reusables : FitReusables model decisions state
  pub reservoirs : FitReservoirs model decisions state

-- the closed state that every closed state is below
pub record IsLeast (model : Model) (decisions : List Decision) (state : State) : Type 0 where
  pub closed : IsClosed model decisions state
  pub below : (other : State) → IsClosed model decisions other → IsBelow state other

-- the decisions leave no closed state
abbrev pub IsCollapsed : Model → List Decision → Type 0
IsCollapsed model decisions = (state : State) → IsClosed model decisions state → ⊥

-- no token is both rejected and taken, and each active one is in the state
pub record AreInPlace (model : Model) (decisions : List Decision) (state : State) : Type 0 where
  pub apart : (token : TokenName) → IsRejected decisions token → IsTaken decisions token → ⊥
  pub active : (token : TokenName) → IsActive model decisions token → Contains state.tokens token
