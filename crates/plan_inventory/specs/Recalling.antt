-- What is known of the rule that was asked for last.
use Rattle.std.specs.Prelude.{◌≡◌, ℕ, Some}
use Rattle.eu_name.specs.declared.name.TokenName.{TokenName}
use Rattle.model_core.specs.declared.model.Model.{Model}
use Rattle.plan_defs.specs.declared.plan.Plan.{Plan}
use Rattle.plan_defs.specs.Valid.{IsActivatedAt}
use Rattle.plan_inventory.specs.declared.recalled.Recalled.{Recalled}
use Rattle.plan_inventory.specs.Marking.{MarksRule}

-- what is recalled is so of the token that takes place by the line, if there is one
abbrev pub Recalls : Model → Plan → Recalled → Type 0
Recalls model plan recalled =
    (place : ℕ) (token : TokenName) → recalled.place ≡ Some place → IsActivatedAt plan place token
    → MarksRule model plan token recalled.rule recalled.marks
