-- What is proved of what `check` prints.
use Rattle.std.specs.Prelude.{◌≡◌, ℕ, Bool, List}
use Rattle.model_core.specs.declared.model.Model.{Model}
use Rattle.model_core.specs.Lawful.{IsLawful}
use Rattle.plan_defs.specs.declared.plan.Clause.{Clause}
use Rattle.plan_defs.specs.declared.plan.Place.{Place}
use Rattle.plan_defs.specs.declared.plan.Plan.{Plan}
use Rattle.plan_defs.specs.Broken.{IsBroken}
use Rattle.plan_defs.specs.Plans.{IsPlanOf}
use Rattle.plan_report.specs.Naming.{HasNames}
use Rattle.plan_report.specs.Verdicts.{ChecksAs}

-- where a plan of the model breaks a clause, what is named is there
abbrev pub BrokenPlacesHaveNames : Type 0
BrokenPlacesHaveNames =
    (model : Model) (plan : Plan) (clause : Clause) (place : Place)
    → IsLawful model → IsPlanOf model plan → IsBroken model plan clause place → HasNames model plan place

-- of a text one line is printed, and it is that of a valid plan or isn't
abbrev pub TextsAreCheckedOnce : Type 0
TextsAreCheckedOnce =
    (model : Model) (text one other : List ℕ) (one_valid other_valid : Bool) → IsLawful model
    → ChecksAs model text one one_valid → ChecksAs model text other other_valid
    → (one ≡ other) × (one_valid ≡ other_valid)
