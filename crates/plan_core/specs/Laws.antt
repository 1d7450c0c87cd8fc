-- What is proved of plan texts.
use Rattle.std.specs.Prelude.{◌≡◌, ℕ, List, Result, Ok, Err}
use Rattle.model_core.specs.declared.model.Model.{Model}
use Rattle.model_core.specs.Lawful.{IsLawful}
use Rattle.plan_defs.specs.declared.plan.Plan.{Plan}
use Rattle.plan_defs.specs.Plans.{IsPlanOf}
use Rattle.plan_text.specs.declared.fault.PlanTextFault.{PlanTextFault}
use Rattle.plan_text.specs.declared.fault.PlanTextFault.TheVariants.{Memory}
use Rattle.plan_text.specs.PlanTexts.{IsPlanText, ReadsPlan}

-- a text is read in one way, as a plan or with one fault, where memory suffices
abbrev pub IsReadOnce : Type 0
IsReadOnce =
    (model : Model) (text : List ℕ) (one other : Result Plan PlanTextFault) → IsLawful model
    → ReadsPlan model text one → ReadsPlan model text other
    → (one ≡ Err Memory → ⊥) → (other ≡ Err Memory → ⊥) → one ≡ other

-- so what is read of the text that is written of a plan is the plan
abbrev pub IsPlanReadBack : Type 0
IsPlanReadBack =
    (model : Model) (plan : Plan) (text : List ℕ) (answer : Result Plan PlanTextFault) → IsLawful model → IsPlanOf model plan
    → IsPlanText model plan text → ReadsPlan model text answer → (answer ≡ Err Memory → ⊥) → answer ≡ Ok plan

-- and a plan has one text, so what is written of the plan that is read of a written text is that text
abbrev pub PlanHasOneText : Type 0
PlanHasOneText =
    (model : Model) (plan : Plan) (one other : List ℕ)
    → IsPlanText model plan one → IsPlanText model plan other → one ≡ other
