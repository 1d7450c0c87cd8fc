-- From what the database answers to a decision to what the command that asks for it is answered.
use Rattle.std.proofs.Common.{Result, Ok, Err, inr, ap, subst}
use Rattle.model_core.specs.declared.decision.Decision.{Decision}
use Rattle.model_core.specs.History.{standing}
use Rattle.plan_db.specs.Answers.{Held, AnswersApply}
use Rattle.plan_db.specs.Database.{IsSound, Applies, RefusesFor}
use Rattle.plan_db.specs.declared.fault.DbFault.{DbFault}
use Rattle.plan_db.specs.declared.fault.DbFault.TheVariants as fault
use Rattle.plan_db.specs.declared.fault.Outcome.{Outcome}
use Rattle.model_core.specs.declared.refusal.Refusal.{Refusal}
use Rattle.plan_defs.proofs.Histories.{standing_settled}
use Rattle.script_lang.specs.declared.command.Command.{Command}
use Rattle.script_lang.specs.Naming.{AsksDecision, StandsForDecision}
use Rattle.script_lang.proofs.Sharing.{refused_as_asked, admitted_is_asked}
use Rattle.session_core.specs.Replies.{TakesAsked, RefusesAsked}
use Rattle.session_core.specs.Steps.{stop_for, step_for, StepsOr}

module _ (old new : Held) (sound : IsSound old.database) (command : Command) (decision asked : Decision)
    (asks : AsksDecision old.database.model command asked) (stands : StandsForDecision decision asked) where
  refuses : (why : Refusal) → RefusesFor old.database decision why → RefusesAsked old.database command why
  refuses why is =
      let settled = standing_settled old.database.model old.database.history sound.history in
      (asked, (asks, refused_as_asked old.database.model (standing old.database.history) decision asked why sound.lawful settled stands is))

  taken : (outcome : Outcome) → AnswersApply old decision (Ok outcome) new → StepsOr (TakesAsked old.database command) old.database (Ok outcome) new.database
  taken outcome answers =
      let same = admitted_is_asked old.database.model (standing old.database.history) decision asked sound.lawful stands answers.1.0 in
      (asked, (asks, subst (λ (d : Decision). Applies old.database d (Ok outcome) new.database) same answers.1))

  not_taken : (why : DbFault) → AnswersApply old decision (Err why) new
      → StepsOr (TakesAsked old.database command) old.database (Err (stop_for why)) new.database
  not_taken fault.Behind answers = ap (λ (held : Held). held.database) answers.same
  not_taken fault.InInconsistent answers = (answers.1.1, answers.1.0)
  not_taken fault.Unknown answers = (inr (refuses _ answers.1.1), answers.1.0)
  not_taken fault.WrongType answers = (inr (refuses _ answers.1.1), answers.1.0)
  not_taken fault.Decided answers = (inr (refuses _ answers.1.1), answers.1.0)
  not_taken fault.NotInDomain answers = (inr (refuses _ answers.1.1), answers.1.0)
  not_taken fault.NotActive answers = (inr (refuses _ answers.1.1), answers.1.0)
  not_taken fault.NotSamePredicate answers = (inr (refuses _ answers.1.1), answers.1.0)
  not_taken fault.NotRejectable answers = (inr (refuses _ answers.1.1), answers.1.0)
  not_taken fault.Same answers = (inr (refuses _ answers.1.1), answers.1.0)
  not_taken fault.ActiveFull answers = (inr (refuses _ answers.1.1), answers.1.0)
  not_taken fault.Memory answers = answers.1.0
  not_taken why answers = absurd answers.1

  pub applied : (done : Result Outcome DbFault) → AnswersApply old decision done new
      → StepsOr (TakesAsked old.database command) old.database (step_for done) new.database
  applied (Ok outcome) answers = taken outcome answers
  applied (Err why) answers = not_taken why answers
