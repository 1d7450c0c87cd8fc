-- What is found of the arguments of a constraint that a decision posts.
use Rattle.std.specs.Prelude.{◌≡◌, pos, ⊤, List, Option, Some, None, Contains}
use Rattle.eu_name.specs.declared.name.VarName.{VarName}
use Rattle.model_core.specs.declared.decision.ConArg.{ConArg}
use Rattle.model_core.specs.declared.decision.ConArg.TheVariants.{Var, Value}
use Rattle.model_core.specs.declared.model.Model.{Model}
use Rattle.model_core.specs.declared.variable.Base.{Base}
use Rattle.model_core.specs.declared.variable.ValueKind.{ValueKind}
use Rattle.model_core.specs.declared.variable.ValueKind.TheVariants as kinds
use Rattle.model_core.specs.Arguments.{IsInType, IsOfType}
use Rattle.model_core.specs.Kinds.{IsVariableOfKind}
use Rattle.model_core.specs.Variables.{HasBase}
use Rattle.db_refusals.specs.declared.arguments.Reading.{Reading}
use Rattle.db_refusals.specs.declared.arguments.Reading.TheVariants.{Types, Values}

-- the model has the argument, if it is a variable
abbrev pub HasArgument : Model → ConArg → Type 0
HasArgument model (Var name) = (base : Base) × HasBase model name base
HasArgument model (Value value) = ⊤

-- what is asked of an argument that is read in a kind
abbrev pub Suits : Model → Reading → ValueKind → ConArg → Type 0
Suits model Types = IsOfType model
Suits model Values = IsInType model

-- the kind of one of the arguments that is a variable, if there is one
abbrev pub FindsKind : Model → List ConArg → Option ValueKind → Type 0
FindsKind model compared None = (name : VarName) → Contains compared (Var name) → ⊥
FindsKind model compared (Some kind) =
    (name : VarName) × Contains compared (Var name) × IsVariableOfKind model kind name

-- the argument is a value other than 0 that suits whole numbers
abbrev pub IsFactor : Model → Reading → ConArg → Type 0
IsFactor model reading (Var name) = ⊥
IsFactor model reading (Value factor) = Suits model reading kinds.Int (Value factor) × (factor ≡ pos 0 → ⊥)
