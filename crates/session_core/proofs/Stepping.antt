-- From what the database answers to a step, and from the step and its reply to what the command is answered.
use Rattle.std.proofs.Common.{◌≡◌, ℕ, List, [], ◌∷◌, Option, Some, None, Result, Ok, Err, inl, inr, refl, ap, subst}
use Rattle.std.specs.Prelude.{IfOk}
use Rattle.std.specs.declared.alloc.AllocError.{AllocError}
use Rattle.eu_name.specs.declared.name.TokenName.{TokenName}
use Rattle.eu_name.specs.declared.name.VarName.{VarName}
use Rattle.eu_name.specs.declared.name_text.NameText.{NameText}
use Rattle.model_core.specs.declared.item.Rel.{Rel}
use Rattle.model_core.specs.declared.model.Model.{Model}
use Rattle.model_core.specs.History.{History, standing}
use Rattle.model_core.specs.Lawful.{IsLawful}
use Rattle.model_core.specs.Names.{NamesToken, NamesVariable}
use Rattle.plan_db.specs.Answers.{Held, AnswersUndo, AnswersReset}
use Rattle.plan_db.specs.Database.{Database, IsSound, HasFormer, HasDecisionOn}
use Rattle.plan_db.specs.declared.fault.DbFault.{DbFault}
use Rattle.plan_db.specs.declared.fault.DbFault.TheVariants as fault
use Rattle.plan_db.specs.declared.fault.Outcome.{Outcome}
use Rattle.plan_defs.specs.History.{IsHistory}
use Rattle.db_history.specs.declared.subject.Subject.{Subject}
use Rattle.db_history.specs.declared.subject.Subject.TheVariants as subjects
use Rattle.script_lang.specs.declared.command.Command.{Command}
use Rattle.script_lang.specs.declared.command.Command.TheVariants.{Reset, ResetOrder, Unrelate}
use Rattle.script_lang.specs.declared.command.DecisionText.{DecisionText}
use Rattle.script_lang.specs.declared.command.DecisionText.TheVariants as texts
use Rattle.script_lang.specs.Naming.{decision_command}
use Rattle.session_core.specs.Asking.{reset_command}
use Rattle.session_core.specs.declared.asked.SubjectText.{SubjectText}
use Rattle.session_core.specs.declared.asked.SubjectText.TheVariants.{Named, Order, Constraint, Relation}
use Rattle.session_core.specs.declared.reason.RefusalReason.{RefusalReason}
use Rattle.session_core.specs.declared.reason.RefusalReason.TheVariants as reason
use Rattle.session_core.specs.declared.reason.StepStop.{StepStop}
use Rattle.session_core.specs.declared.reason.StepStop.TheVariants.{Refused, Memory}
use Rattle.session_core.specs.Reasons.{refusal, outcome_text}
use Rattle.session_core.specs.Replies.{IsFull, UnlessFull, RepliesStep, RepliesDecision, RepliesReset, ResetsAsked, AsksSubject, UndoesLast}
use Rattle.session_core.specs.Steps.{stop_for, step_for, StepsOr, SaysStep, ResetsOn, AsksNoSubject, NamesSubject, FindsSubject, Answers, AnswersCommand}
use Rattle.session_core.proofs.StandIns.{same_subject, reset_for}
use Rattle.session_core.proofs.Words.{subject_one}

-- ---- replies

module _ (old new : Database) where
  -- how a step ended is said, or the reply is lost
  pub step_answers : (Steps : Result Outcome RefusalReason → Database → Type 0) (step : Result Outcome StepStop) (result : Result (List ℕ) AllocError)
      → StepsOr Steps old step new → IfOk result (SaysStep step) → Answers (RepliesStep Steps) old result new
  step_answers Steps (Ok found) (Ok reply) steps says = (Ok found, (steps, says))
  step_answers Steps (Ok found) (Err none) steps says = inr (outcome_text found, (Ok found, (steps, refl)))
  step_answers Steps (Err (Refused why)) (Ok reply) steps says = (Err why, (steps, says))
  step_answers Steps (Err (Refused why)) (Err none) steps says = inr (refusal why, (Err why, (steps, refl)))
  step_answers Steps (Err Memory) (Ok reply) steps says = absurd says
  step_answers Steps (Err Memory) (Err none) steps says = inl steps

  -- the same where the history isn't full
  pub not_full : (IsReplied : List ℕ → Database → Type 0) (result : Result (List ℕ) AllocError)
      → (IsFull old → ⊥) → Answers IsReplied old result new → Answers (UnlessFull IsReplied old) old result new
  not_full IsReplied (Ok reply) free answers = inr (free, answers)
  not_full IsReplied (Err none) free (inl same) = inl same
  not_full IsReplied (Err none) free (inr (reply, replied)) = inr (reply, inr (free, replied))

  pub step_not_full : (Steps : Result Outcome RefusalReason → Database → Type 0) (step : Result Outcome StepStop) (result : Result (List ℕ) AllocError)
      → (IsFull old → ⊥) → StepsOr Steps old step new → IfOk result (SaysStep step) → Answers (UnlessFull (RepliesStep Steps) old) old result new
  step_not_full Steps step result free steps says =
      not_full (RepliesStep Steps) result free (step_answers Steps step result steps says)

  -- for the commands that ask for a decision
  pub deciding : (asked : DecisionText) (result : Result (List ℕ) AllocError)
      → Answers (RepliesDecision old (decision_command asked)) old result new → AnswersCommand old (decision_command asked) result new
  deciding (texts.Specify variable value) result answers = answers
  deciding (texts.Activate token) result answers = answers
  deciding (texts.Merge token target) result answers = answers
  deciding (texts.Reject token) result answers = answers
  deciding (texts.Order first second) result answers = answers
  deciding (texts.Constrain kind arguments) result answers = answers
  deciding (texts.Relate relation first second) result answers = answers

  -- and for those that ask for one to be taken out
  pub resetting : (asked : SubjectText) (result : Result (List ℕ) AllocError)
      → Answers (RepliesReset old (reset_command asked)) old result new → AnswersCommand old (reset_command asked) result new
  resetting (Named text) result answers = answers
  resetting (Order text after) result answers = answers
  resetting (Constraint kind arguments) result answers = answers
  resetting (Relation relation text after) result answers = answers

-- nothing changes where the history is full
pub full_answers : (old : Database) (IsReplied : List ℕ → Database → Type 0) (result : Result (List ℕ) AllocError)
    → IsFull old → IfOk result (λ reply. reply ≡ refusal reason.Full) → Answers (UnlessFull IsReplied old) old result old
full_answers old IsReplied (Ok reply) full says = inl (full, says, refl)
full_answers old IsReplied (Err none) full says = inl refl

-- ---- steps taken back

same_database : (old new : Held) → new ≡ old → new.database ≡ old.database
same_database old new same = ap (λ (held : Held). held.database) same

-- a history that comes about has a list
has_former : (model : Model) (old new : History) → IsHistory model new → old ≡ standing old ∷ new → HasFormer old
has_former model old [] is same = absurd is
has_former model old (former ∷ below) is same = (former, (below, same))

undone : (old new : Held) (outcome : Outcome) → IsSound new.database → AnswersUndo old (Ok outcome) new
    → StepsOr (UndoesLast old.database) old.database (Ok outcome) new.database
undone old new outcome sound answers =
    (has_former new.database.model old.database.history new.database.history sound.history answers.1.1, answers.1)

not_undone : (old new : Held) (why : DbFault) → AnswersUndo old (Err why) new
    → StepsOr (UndoesLast old.database) old.database (Err (stop_for why)) new.database
not_undone old new fault.Behind answers = same_database old new answers.same
not_undone old new fault.Nothing answers = (answers.1.1, answers.1.0)
not_undone old new fault.Memory answers = answers.1.0
not_undone old new why answers = absurd answers.1

pub undo_ends : (old new : Held) (done : Result Outcome DbFault) → IsSound new.database → AnswersUndo old done new
    → StepsOr (UndoesLast old.database) old.database (step_for done) new.database
undo_ends old new (Ok outcome) sound answers = undone old new outcome sound answers
undo_ends old new (Err why) sound answers = not_undone old new why answers

-- ---- decisions taken out

reset_done : (old new : Held) (subject : Subject) (outcome : Outcome) → AnswersReset old subject (Ok outcome) new
    → ResetsOn old.database subject (Ok outcome) new.database
reset_done old new subject outcome answers = answers.1

not_reset : (old new : Held) (subject : Subject) (why : DbFault) → AnswersReset old subject (Err why) new
    → ResetsOn old.database subject (Err (stop_for why)) new.database
not_reset old new subject fault.Behind answers = same_database old new answers.same
not_reset old new subject fault.Memory answers = answers.1.0
not_reset old new subject fault.NoSuchDecision answers = (answers.1.1, answers.1.0)
not_reset old new subject why answers = absurd answers.1

pub reset_ends : (old new : Held) (subject : Subject) (done : Result Outcome DbFault) → AnswersReset old subject done new
    → ResetsOn old.database subject (step_for done) new.database
reset_ends old new subject (Ok outcome) answers = reset_done old new subject outcome answers
reset_ends old new subject (Err why) answers = not_reset old new subject why answers

-- where a subject is asked for, no other one is
module _ (old new : Database) (sound : IsSound old) (command : Command) where
  asked_reset : (subject : Subject) (step : Result Outcome StepStop) → AsksSubject old.model command subject → ResetsOn old subject step new
      → StepsOr (ResetsAsked old command) old step new
  asked_reset subject (Ok outcome) asks resets = (subject, (asks, resets))
  asked_reset subject (Err (Refused reason.NoDecision)) asks resets =
      (λ other is. subst (λ (s : Subject). HasDecisionOn old s → ⊥) (subject_one old.model sound.lawful command subject other asks is) resets.0, resets.1)
  asked_reset subject (Err (Refused why)) asks resets = absurd resets
  asked_reset subject (Err Memory) asks resets = resets

  pub found_reset : (found : Option Subject) (subject : Subject) (step : Result Outcome StepStop) → found ≡ Some subject → FindsSubject old.model command found
      → ResetsOn old subject step new → StepsOr (ResetsAsked old command) old step new
  found_reset found subject step is finds resets =
      let found_for = subst (λ (f : Option Subject). FindsSubject old.model command f) is finds in
      asked_reset found_for.0 step found_for.1.0 (reset_for old sound new subject found_for.0 found_for.1.1 step resets)

-- what is named is found
pub named_found : (model : Model) (command : Command) (answer : Result (Option Subject) AllocError) → IfOk answer (NamesSubject model command) → IfOk answer (FindsSubject model command)
named_found model command (Ok (Some subject)) names = (subject, (names, same_subject subject))
named_found model command (Ok None) names = names
named_found model command (Err none) names = tt

-- no decision stands on what isn't named
pub none_reset : (old : Database) (command : Command) (found : Option Subject) → found ≡ None → FindsSubject old.model command found
    → StepsOr (ResetsAsked old command) old (Err (Refused reason.NoDecision)) old
none_reset old command found is finds =
    let none = subst (λ (f : Option Subject). FindsSubject old.model command f) is finds in
    (λ subject asks stands. none subject asks, refl)

-- ---- what texts name

module _ (model : Model) (text : NameText) where
  -- a text that names no variable and no token names nothing
  pub no_subject : ((name : VarName) → NamesVariable model text name → ⊥) → ((token : TokenName) → NamesToken model text token → ⊥)
      → AsksNoSubject model (Reset text)
  no_subject no_variable no_token (subjects.Var name) asks = no_variable name asks
  no_subject no_variable no_token (subjects.Token token) asks = no_token token asks
  no_subject no_variable no_token subject asks = asks

  pub no_order : (after : NameText) → ((first second : TokenName) → NamesToken model text first → NamesToken model after second → ⊥)
      → AsksNoSubject model (ResetOrder text after)
  no_order after none (subjects.Order first second) asks = none first second asks.0 asks.1
  no_order after none subject asks = asks

  pub no_relation : (relation : Rel) (after : NameText) → ((first second : TokenName) → NamesToken model text first → NamesToken model after second → ⊥)
      → AsksNoSubject model (Unrelate relation text after)
  no_relation relation after none (subjects.Relation other first second) asks = none first second asks.1 asks.2
  no_relation relation after none subject asks = asks
