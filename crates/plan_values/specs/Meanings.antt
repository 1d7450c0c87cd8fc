-- What terms mean by the values of a plan.
use Rattle.std.specs.Prelude.{ℤ}
use Rattle.eu_name.specs.declared.name.VarName.TheVariants as variables
use Rattle.model_core.specs.declared.item.Term.{Term}
use Rattle.model_core.specs.declared.model.Model.{Model}
use Rattle.plan_defs.specs.declared.plan.Plan.{Plan}
use Rattle.plan_defs.specs.Plans.{IsTakenIn}
use Rattle.plan_defs.specs.Terms.{Context, InProblem, InRule, Argument, Value, Variable, Means, ArgumentCounts}
use Rattle.plan_defs.specs.Valid.{HasArgumentValue}
use Rattle.plan_values.specs.declared.terms.Meaning.{Meaning}
use Rattle.plan_values.specs.declared.terms.Meaning.TheVariants as meanings
use Rattle.plan_values.specs.declared.terms.Standpoint.{Standpoint}
use Rattle.plan_values.specs.declared.terms.Standpoint.TheVariants as standpoints
use Rattle.plan_values.specs.Keys.{key_token}

-- where the term stands
abbrev pub context_of : Standpoint → Context
context_of standpoints.Problem = InProblem
context_of (standpoints.Rule token rule) = InRule token.now rule

-- the value or the variable
abbrev pub argument_of : Meaning → Argument
argument_of (meanings.Value value) = Value value
argument_of (meanings.Global number) = Variable (variables.Global number)
argument_of (meanings.Part token part) = Variable (variables.Token (key_token token) part)
argument_of (meanings.Local token rule number) = Variable (variables.Local (key_token token) rule number)

-- the term means something, and what is said of that counts
abbrev pub CountsAt : Model → Plan → Context → Term → Type 0
CountsAt model plan context term =
    (argument : Argument) × Means context term argument × ArgumentCounts model (IsTakenIn plan) argument

-- what the term means has this value
abbrev pub HasTermValue : Plan → Context → Term → ℤ → Type 0
HasTermValue plan context term value =
    (argument : Argument) × Means context term argument × HasArgumentValue plan argument value
