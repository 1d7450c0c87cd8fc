-- Items of the problem.
use Rattle.std.specs.Prelude.{◌≡◌, ℕ, Some, slice_get}
use Rattle.model_core.specs.declared.item.Item.{Item}
use Rattle.model_core.specs.declared.model.Model.{Model}
use Rattle.plan_defs.specs.declared.plan.Plan.{Plan}
use Rattle.plan_defs.specs.Valid.{IsTrueItem}

-- the problem's item of this number is true
abbrev pub IsProblemItemTrue : Model → Plan → ℕ → Type 0
IsProblemItemTrue model plan number =
    (item : Item) → slice_get model.problem.items number ≡ Some item → IsTrueItem model plan item
