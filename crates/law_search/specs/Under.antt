-- What stands under a token, and which lines and decisions name it.
use Rattle.std.specs.Prelude.{◌≡◌, ◌⊎◌, List, ◌∷◌, Contains}
use Rattle.eu_name.specs.declared.name.Step.{Step}
use Rattle.eu_name.specs.declared.name.TokenName.{TokenName}
use Rattle.eu_name.specs.declared.name.VarName.{VarName}
use Rattle.eu_name.specs.declared.name.VarName.TheVariants as variables
use Rattle.model_core.specs.declared.decision.ConArg.TheVariants.{Var}
use Rattle.model_core.specs.declared.decision.Decision.{Decision}
use Rattle.model_core.specs.declared.decision.Decision.TheVariants.{Specify, Activate, Merge, Reject, Order, Constrain, Relate}
use Rattle.plan_defs.specs.declared.plan.Line.{Line}
use Rattle.plan_defs.specs.declared.plan.Line.TheVariants as lines
use Rattle.law_search.specs.Swapping.{token_under}

-- some steps lead from the top to the token
pub record IsUnder (top token : TokenName) : Type 0 where
  pub step : Step
  pub steps : List Step
  pub is : token ≡ token_under top (step ∷ steps)

-- The variable is one of a token under the top, or a local of the top. The parts of the top itself don't stand under it.
abbrev pub IsVariableUnder : TokenName → VarName → Type 0
IsVariableUnder top (variables.Global number) = ⊥
IsVariableUnder top (variables.Token token part) = IsUnder top token
IsVariableUnder top (variables.Local token rule number) = (token ≡ top) ⊎ IsUnder top token

-- the line is that of a token or a local under the top
abbrev pub IsLineUnder : TokenName → Line → Type 0
IsLineUnder top (lines.Token token fact values) = IsUnder top token
IsLineUnder top (lines.Merged token target) = IsUnder top token
IsLineUnder top (lines.Rejected token) = IsUnder top token
IsLineUnder top (lines.Local name value) = IsVariableUnder top name

-- the decision names a token or a variable under the top
abbrev pub NamesUnder : TokenName → Decision → Type 0
NamesUnder top (Specify name value) = IsVariableUnder top name
NamesUnder top (Activate token) = IsUnder top token
NamesUnder top (Merge token target) = IsUnder top token ⊎ IsUnder top target
NamesUnder top (Reject token) = IsUnder top token
NamesUnder top (Order one other) = IsUnder top one ⊎ IsUnder top other
NamesUnder top (Constrain kind arguments) = (name : VarName) × Contains arguments (Var name) × IsVariableUnder top name
NamesUnder top (Relate relation one other) = IsUnder top one ⊎ IsUnder top other
