-- Small plans, and what it means that one breaks a single clause.
use Rattle.std.specs.Prelude.{ℕ, ℤ, pos, ◌+◌, ◌≢◌, Bool, true, false, List, [], ◌∷◌}
use Rattle.eu_name.specs.declared.name.VarName.{VarName}
use Rattle.eu_name.specs.declared.name.VarName.TheVariants.{Local}
use Rattle.model_core.specs.declared.class.ObjectKind.TheVariants as kind
use Rattle.model_core.specs.declared.class.PredKind.TheVariants as pred
use Rattle.model_core.specs.declared.model.Model.{Model}
use Rattle.model_core.specs.declared.model.RootKind.TheVariants.{Rejectable}
use Rattle.plan_defs.specs.declared.plan.Clause.{Clause}
use Rattle.plan_defs.specs.declared.plan.Line.{Line}
use Rattle.plan_defs.specs.declared.plan.Line.TheVariants as lines
use Rattle.plan_defs.specs.declared.plan.Place.{Place}
use Rattle.plan_defs.specs.declared.plan.Plan.{Plan}
use Rattle.plan_defs.specs.Broken.{IsBroken}
use Rattle.plan_defs.specs.Plans.{IsPlanOf}
use Rattle.plan_defs.specs.Valid.{IsClauseKept, IsValid}
use Rattle.law_examples.specs.Scenes.{scene, with_local}
use Rattle.law_examples.specs.Swaps.{g, gg}

-- a plan of the model that is valid
pub record IsValidPlan (model : Model) (plan : Plan) : Type 0 where
  pub is_plan : IsPlanOf model plan
  pub valid : IsValid model plan

-- a plan of the model that breaks the clause at this place, and keeps each other clause everywhere
pub record BreaksOnly (model : Model) (plan : Plan) (clause : Clause) (place : Place) : Type 0 where
  pub is_plan : IsPlanOf model plan
  pub broken : IsBroken model plan clause place
  pub others : (other : Clause) (elsewhere : Place) → other ≢ clause → IsClauseKept model plan other elsewhere

-- ---- plans

-- these values of the globals, and no line
abbrev pub values_alone : List ℤ → Plan
values_alone values = record { globals = values; lines = [] }

-- these lines, and no global
abbrev pub lines_alone : List Line → Plan
lines_alone lines = record { globals = []; lines = lines }

-- the values of a token from the one instant to the other, for so long, on the first object, with this quantity
abbrev pub values_of : ℕ → ℕ → ℕ → ℕ → List ℤ
values_of start end duration quantity = pos start ∷ pos end ∷ pos duration ∷ pos 0 ∷ pos quantity ∷ []

-- from 0 to 1
abbrev pub short_values : List ℤ
short_values = values_of 0 1 1 1

-- `token g ..`, or `fact g ..`, with these values
abbrev pub takes_place : Bool → List ℤ → Line
takes_place fact values = lines.Token g fact values

-- `g` alone, with these values
abbrev pub goal_with : List ℤ → Plan
goal_with values = lines_alone (takes_place false values ∷ [])

-- `merged g g` and `token gg ..`
abbrev pub merged_into_itself : Plan
merged_into_itself = lines_alone (lines.Merged g g ∷ lines.Token gg false short_values ∷ [])

-- `fact g ..` from 0 to 5, and `fact gg ..` from this instant on, for 3
abbrev pub first_fact : Line
first_fact = takes_place true (values_of 0 5 5 0)

abbrev pub fact_from : ℕ → Line
fact_from start = lines.Token gg true (values_of start (start + 3) 3 0)

abbrev pub facts_with : ℕ → Plan
facts_with start = lines_alone (first_fact ∷ fact_from start ∷ [])

-- `fact g ..` from 0 to 5 with this quantity
abbrev pub using_fact : ℕ → Line
using_fact quantity = takes_place true (values_of 0 5 5 quantity)

-- it alone
abbrev pub use_of : ℕ → Plan
use_of quantity = lines_alone (using_fact quantity ∷ [])

-- it and `rejected gg`
abbrev pub taking_out : ℕ → Plan
taking_out quantity = lines_alone (using_fact quantity ∷ lines.Rejected gg ∷ [])

-- ---- locals

-- the local of `g`
abbrev pub local_of_g : VarName
local_of_g = Local g 0 0

-- `local g/0!0 ..`
abbrev pub local_is : ℕ → Line
local_is value = lines.Local local_of_g (pos value)

-- `token g ..` and this value of the local
abbrev pub goal_and_local : ℕ → Plan
goal_and_local value = lines_alone (takes_place false short_values ∷ local_is value ∷ [])

-- one rejectable, where the predicate has a rule with a local
abbrev pub localised_rejectable : Model
localised_rejectable = scene kind.Plain pred.Plain (0 ∷ []) (with_local ∷ []) (Rejectable ∷ [])

-- `rejected g`, and with it a value of the local
abbrev pub rejected_alone : Plan
rejected_alone = lines_alone (lines.Rejected g ∷ [])

abbrev pub rejected_and_local : Plan
rejected_and_local = lines_alone (lines.Rejected g ∷ local_is 0 ∷ [])
