-- Constraints of a network as claims about named variables.
use Rattle.std.specs.Prelude.{◌≡◌, ◌↔◌, ℕ, ℤ, List, Some, slice_get, All, Contains}
use Rattle.std.specs.List.{AllZip}
use Rattle.eu_name.specs.declared.name.VarName.{VarName}
use Rattle.model_core.specs.declared.decision.Decision.{Decision}
use Rattle.model_core.specs.declared.model.Model.{Model}
use Rattle.model_core.specs.State.{State}
use Rattle.narrow_core.specs.declared.field.Field.{Field}
use Rattle.constraint_net.specs.Networks.{field_of}
use Rattle.constraint_net.specs.declared.constraint.Constraint.{Constraint}
use Rattle.constraint_net.specs.declared.constraint.NetArg.{NetArg}
use Rattle.constraint_net.specs.declared.constraint.NetArg.TheVariants.{Var, Lit}
use Rattle.plan_defs.specs.Claims.{Claim}
use Rattle.plan_defs.specs.Closure.{IsPropagatedState}
use Rattle.plan_defs.specs.Consistency.{HasField, IsClaimConsistent}
use Rattle.plan_defs.specs.Terms.{Argument, Value, Variable}

-- the argument of a constraint is this one: a value, or the number of the variable of this name
abbrev pub IsNamedArgument : List VarName → Argument → NetArg → Type 0
IsNamedArgument names (Value value) arg = arg ≡ Lit value
IsNamedArgument names (Variable name) arg = (number : ℕ) × (arg ≡ Var number) × (slice_get names number ≡ Some name)

-- the constraint says the claim, where the variables have these names by number
pub record SaysClaim (names : List VarName) (constraint : Constraint) (claim : Claim) : Type 0 where
  pub kind : constraint.kind ≡ claim.kind
  pub arguments : AllZip (IsNamedArgument names) claim.arguments constraint.args

-- some constraint says the claim
abbrev pub IsPostedIn : List VarName → List Constraint → Claim → Type 0
IsPostedIn names constraints claim =
    (constraint : Constraint) × Contains constraints constraint × SaysClaim names constraint claim

-- the claim is consistent in every state that is propagated for the decisions
abbrev pub IsOwed : Model → List Decision → Claim → Type 0
IsOwed model decisions claim = (state : State) → IsPropagatedState model decisions state → IsClaimConsistent model state claim

-- each constraint says a claim that is owed
abbrev pub AreOwed : Model → List Decision → List VarName → List Constraint → Type 0
AreOwed model decisions names constraints =
    All (λ constraint. (claim : Claim) × SaysClaim names constraint claim × IsOwed model decisions claim) constraints

-- the tables say which object has which value in which field
abbrev pub AreFieldsOf : Model → List Field → Type 0
AreFieldsOf model tables =
    (number : ℕ) (object value : ℤ) → field_of tables number object value ↔ HasField model number object value
