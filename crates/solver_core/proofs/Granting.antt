-- What can't be answered where a decision may be taken.
use Rattle.std.proofs.Common.{◌≡◌, true, false, refl, sym, ap, ◌∙◌, subst}
use Rattle.std.specs.Prelude.{List, Err}
use Rattle.model_core.specs.declared.decision.Decision.{Decision}
use Rattle.model_core.specs.declared.model.Model.{Model}
use Rattle.model_core.specs.History.{standing}
use Rattle.model_core.specs.State.{State}
use Rattle.plan_defs.specs.Refusals.{Hinders, IsRefused, IsAdmissible}
use Rattle.model_core.specs.declared.refusal.Refusal.{Refusal}
use Rattle.plan_defs.proofs.Settling.{least_same, least_not_collapsed}
use Rattle.plan_db.specs.declared.fault.DbFault.{DbFault}
use Rattle.plan_db.specs.declared.fault.DbFault.TheVariants as fault
use Rattle.plan_db.specs.Answers.{Held, AnswersApply}

true_false : true ≡ false → ⊥
true_false same = cc

not_refused : (model : Model) (decisions : List Decision) (decision : Decision) (reason : Refusal) → IsAdmissible model decisions decision → IsRefused model decisions decision reason → ⊥
not_refused model decisions decision reason may refused =
    may.free reason
    (subst (λ (s : State). Hinders model decisions s reason decision) (least_same model decisions refused.state may.state refused.least may.least) refused.refusal.hinders)

pub only_memory : (old new : Held) (decision : Decision) (why : DbFault) → AnswersApply old decision (Err why) new → old.behind ≡ false
    → IsAdmissible old.database.model (standing old.database.history) decision → why ≡ fault.Memory
only_memory old new decision fault.Behind answers ready may = absurd (true_false (sym answers.before ∙ ready))
only_memory old new decision fault.InInconsistent answers ready may = absurd (least_not_collapsed old.database.model (standing old.database.history) may.state may.least answers.1.1)
only_memory old new decision fault.Unknown answers ready may = absurd (not_refused old.database.model (standing old.database.history) decision _ may answers.1.1)
only_memory old new decision fault.WrongType answers ready may = absurd (not_refused old.database.model (standing old.database.history) decision _ may answers.1.1)
only_memory old new decision fault.Decided answers ready may = absurd (not_refused old.database.model (standing old.database.history) decision _ may answers.1.1)
only_memory old new decision fault.NotInDomain answers ready may = absurd (not_refused old.database.model (standing old.database.history) decision _ may answers.1.1)
only_memory old new decision fault.NotActive answers ready may = absurd (not_refused old.database.model (standing old.database.history) decision _ may answers.1.1)
only_memory old new decision fault.NotSamePredicate answers ready may = absurd (not_refused old.database.model (standing old.database.history) decision _ may answers.1.1)
only_memory old new decision fault.NotRejectable answers ready may = absurd (not_refused old.database.model (standing old.database.history) decision _ may answers.1.1)
only_memory old new decision fault.Same answers ready may = absurd (not_refused old.database.model (standing old.database.history) decision _ may answers.1.1)
only_memory old new decision fault.ActiveFull answers ready may = absurd (not_refused old.database.model (standing old.database.history) decision _ may answers.1.1)
only_memory old new decision fault.NoSuchDecision answers ready may = absurd (answers.1)
only_memory old new decision fault.Nothing answers ready may = absurd (answers.1)
only_memory old new decision fault.Memory answers ready may = refl

pub refused_same : (old new : Held) (decision : Decision) (why : DbFault) → AnswersApply old decision (Err why) new → new.database ≡ old.database
refused_same old new decision fault.Behind answers = ap (λ (h : Held). h.database) answers.same
refused_same old new decision fault.Memory answers = answers.1.0
refused_same old new decision why answers = ap (λ (h : Held). h.database) answers.0.same

pub refused_ready : (old new : Held) (decision : Decision) (why : DbFault) → AnswersApply old decision (Err why) new → old.behind ≡ false → new.behind ≡ false
refused_ready old new decision fault.Behind answers ready = ap (λ (h : Held). h.behind) answers.same ∙ ready
refused_ready old new decision fault.Memory answers ready = answers.0.after
refused_ready old new decision why answers ready = ap (λ (h : Held). h.behind) answers.0.same ∙ ready
