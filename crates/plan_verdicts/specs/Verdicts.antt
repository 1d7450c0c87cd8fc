-- What can't be missing of plans and their texts.
use Rattle.std.specs.Prelude.{◌≡◌, ℕ, ◌<◌, ◌^◌, Bool, List, length, Result, Err}
use Rattle.law_states.specs.Undeniable.{Undeniable}
use Rattle.model_core.specs.declared.model.Model.{Model}
use Rattle.model_core.specs.Lawful.{IsLawful}
use Rattle.plan_check.specs.declared.verdict.Verdict.{Verdict}
use Rattle.plan_check.specs.Judged.{IsVerdict}
use Rattle.plan_defs.specs.declared.plan.Plan.{Plan}
use Rattle.plan_text.specs.declared.fault.PlanTextFault.{PlanTextFault}
use Rattle.plan_text.specs.declared.fault.PlanTextFault.TheVariants.{Memory}
use Rattle.plan_text.specs.PlanTexts.{ReadsPlan}
use Rattle.plan_report.specs.Verdicts.{ChecksAs}

-- a plan is valid, or breaks a clause first, at some place
abbrev pub PlansHaveVerdicts : Type 0
PlansHaveVerdicts =
    (model : Model) (plan : Plan) → IsLawful model → Undeniable ((verdict : Verdict) × IsVerdict model plan verdict)

-- a text is read as a plan or has a first fault, which isn't want of memory
abbrev pub TextsAreReadOrFaulty : Type 0
TextsAreReadOrFaulty =
    (model : Model) (text : List ℕ)
    → IsLawful model → Undeniable ((read : Result Plan PlanTextFault) × (ReadsPlan model text read × (read ≡ Err Memory → ⊥)))

-- a line is printed of a text whose places have numbers
abbrev pub TextsAreChecked : Type 0
TextsAreChecked =
    (model : Model) (text : List ℕ)
    → IsLawful model → length text < 2 ^ 32
    → Undeniable ((reply : List ℕ) × ((is_valid : Bool) × ChecksAs model text reply is_valid))
