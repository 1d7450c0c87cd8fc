-- A plan of a model has a text.
use Rattle.std.specs.Prelude.{◌≡◌, ℕ, ◌≤◌, ℤ, List, length, Some, slice_get, All, AllPairs}
use Rattle.model_core.specs.declared.model.Model.{Model}
use Rattle.model_core.specs.declared.variable.ValueKind.{ValueKind}
use Rattle.model_core.specs.declared.variable.VarDecl.{VarDecl}
use Rattle.model_core.specs.Kinds.{IsValueOf}
use Rattle.model_core.specs.Lawful.{IsLawful}
use Rattle.model_core.specs.Variables.{IsGlobal}
use Rattle.plan_defs.specs.declared.plan.Plan.{Plan}
use Rattle.plan_defs.specs.Plans.{IsLineOf, IsLineBefore}
use Rattle.plan_text.specs.PlanTexts.{IsPlanText}
use Rattle.plan_text.specs.Values.{IsValueText}

-- the plan is one of the model, however many lines it has
pub record IsPlanOfAnyLength (model : Model) (plan : Plan) : Type 0 where
  pub few_globals : length plan.globals ≤ length model.problem.globals
  pub globals : (number : ℕ) (value : ℤ) (variable : VarDecl)
      → slice_get plan.globals number ≡ Some value → IsGlobal model number variable
      → IsValueOf model variable.kind value
  pub lines : All (IsLineOf model) plan.lines
  pub order : AllPairs IsLineBefore plan.lines

-- each value of a kind has a text
abbrev pub ValuesHaveTexts : Type 0
ValuesHaveTexts =
    (model : Model) (kind : ValueKind) (value : ℤ) → IsValueOf model kind value → (word : List ℕ) × IsValueText model kind value word

-- so has each plan of a lawful model
abbrev pub PlansHaveTexts : Type 0
PlansHaveTexts =
    (model : Model) (plan : Plan) → IsLawful model → IsPlanOfAnyLength model plan → (text : List ℕ) × IsPlanText model plan text
