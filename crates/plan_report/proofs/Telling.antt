-- What is answered to a text.
use Rattle.std.proofs.Common.{ℕ, List, Result, Ok, Err}
use Rattle.std.specs.Prelude.{IfOk}
use Rattle.model_core.specs.declared.model.Model.{Model}
use Rattle.plan_text.specs.declared.fault.PlanTextFault.{PlanTextFault}
use Rattle.plan_text.specs.PlanTexts.{ReadsPlan}
use Rattle.plan_defs.specs.declared.plan.Plan.{Plan}
use Rattle.plan_report.specs.declared.verdicts.Checked.{Checked}
use Rattle.plan_report.specs.Verdicts.{IsAnsweredAs, ChecksAs}

pub text_answered : {E : Type 0} (model : Model) (text : List ℕ) (read : Result Plan PlanTextFault) (r : Result Checked E) → ReadsPlan model text read
    → IfOk r (λ checked. IsAnsweredAs model read checked.reply checked.is_valid) → IfOk r (λ checked. ChecksAs model text checked.reply checked.is_valid)
text_answered model text read (Ok checked) reads is = (read, (reads, is))
text_answered model text read (Err e) reads is = tt
