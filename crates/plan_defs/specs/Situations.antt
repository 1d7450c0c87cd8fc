-- What the definitions of what counts and what opens read, whether of decisions and a state or of a plan.
use Rattle.std.specs.Prelude.{List}
use Rattle.domain_core.specs.Domain.{Domain}
use Rattle.eu_name.specs.declared.name.TokenName.{TokenName}
use Rattle.eu_name.specs.declared.name.VarName.{VarName}
use Rattle.model_core.specs.declared.decision.Decision.{Decision}
use Rattle.model_core.specs.Decided.{IsTaken, IsActivated}
use Rattle.model_core.specs.State.{State, Gives}

-- which tokens are taken, which are activated, and what each variable may be
pub record Situation : Type 1 where
  pub taken : TokenName → Type 0
  pub activated : TokenName → Type 0
  pub gives : VarName → Domain → Type 0

-- the situation of these decisions in this state
abbrev pub situation_of : List Decision → State → Situation
situation_of decisions state = record {
  taken = IsTaken decisions;
  activated = IsActivated decisions;
  gives = Gives state;
}
