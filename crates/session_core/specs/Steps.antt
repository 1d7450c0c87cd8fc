-- What the functions behind the commands answer: a step or why it isn't made, and a reply or that memory was wanting for it.
use Rattle.std.specs.Prelude.{◌≡◌, ℕ, List, Option, Result, Ok, Err, MatchOption}
use Rattle.std.specs.declared.alloc.AllocError.{AllocError}
use Rattle.model_core.specs.declared.decision.Decision.TheVariants as decisions
use Rattle.model_core.specs.declared.model.Model.{Model}
use Rattle.model_core.specs.declared.refusal.Refusal.{Refusal}
use Rattle.model_core.specs.declared.refusal.Refusal.TheVariants as refusals
use Rattle.plan_db.specs.Database.{Database, Resets, HasDecisionOn}
use Rattle.plan_db.specs.declared.fault.DbFault.{DbFault}
use Rattle.plan_db.specs.declared.fault.DbFault.TheVariants as fault
use Rattle.plan_db.specs.declared.fault.Outcome.{Outcome}
use Rattle.db_history.specs.declared.subject.Subject.{Subject}
use Rattle.db_history.specs.declared.subject.Subject.TheVariants as subjects
use Rattle.script_lang.specs.declared.command.Command.{Command}
use Rattle.script_lang.specs.Naming.{StandsForDecision}
use Rattle.session_core.specs.declared.reason.RefusalReason.{RefusalReason}
use Rattle.session_core.specs.declared.reason.RefusalReason.TheVariants as reason
use Rattle.session_core.specs.declared.reason.StepStop.{StepStop}
use Rattle.session_core.specs.declared.reason.StepStop.TheVariants.{Refused, Memory}
use Rattle.session_core.specs.Reasons.{outcome_text, refusal}
use Rattle.session_core.specs.Replies.{AsksSubject, RepliesTo, IsLost}

-- ---- steps

-- that a decision is refused for this reason
abbrev pub refused_for : Refusal → StepStop
refused_for why = Refused (reason.Decision why)

-- how a fault of the database stops a step
abbrev pub stop_for : DbFault → StepStop
stop_for fault.Behind = Memory
stop_for fault.InInconsistent = Refused reason.Inconsistent
stop_for fault.Unknown = refused_for refusals.Unknown
stop_for fault.WrongType = refused_for refusals.WrongType
stop_for fault.Decided = refused_for refusals.Decided
stop_for fault.NotInDomain = refused_for refusals.NotInDomain
stop_for fault.NotActive = refused_for refusals.NotActive
stop_for fault.NotSamePredicate = refused_for refusals.NotSamePredicate
stop_for fault.NotRejectable = refused_for refusals.NotRejectable
stop_for fault.Same = refused_for refusals.SameToken
stop_for fault.ActiveFull = refused_for refusals.ActiveFull
stop_for fault.NoSuchDecision = Refused reason.NoDecision
stop_for fault.Nothing = Refused reason.Nothing
stop_for fault.Memory = Memory

-- how a call of the database ends a step
abbrev pub step_for : Result Outcome DbFault → Result Outcome StepStop
step_for (Ok found) = Ok found
step_for (Err why) = Err (stop_for why)

-- the step is made or refused so; where memory was wanting nothing is changed
abbrev pub StepsOr : (Result Outcome RefusalReason → Database → Type 0) → Database → Result Outcome StepStop → Database → Type 0
StepsOr Steps old (Ok found) new = Steps (Ok found) new
StepsOr Steps old (Err (Refused why)) new = Steps (Err why) new
StepsOr Steps old (Err Memory) new = new ≡ old

-- the reply says how the step ended; where memory was wanting for the step, there is none
abbrev pub SaysStep : Result Outcome StepStop → List ℕ → Type 0
SaysStep (Ok found) reply = reply ≡ outcome_text found
SaysStep (Err (Refused why)) reply = reply ≡ refusal why
SaysStep (Err Memory) reply = ⊥

-- the decision on the subject is taken out, or there is none; where memory was wanting nothing is changed
abbrev pub ResetsOn : Database → Subject → Result Outcome StepStop → Database → Type 0
ResetsOn old subject (Ok found) new = Resets old subject (Ok found) new
ResetsOn old subject (Err (Refused reason.NoDecision)) new = (HasDecisionOn old subject → ⊥) × (new ≡ old)
ResetsOn old subject (Err (Refused why)) new = ⊥
ResetsOn old subject (Err Memory) new = new ≡ old

-- the command asks for no decision on anything to be taken out
abbrev pub AsksNoSubject : Model → Command → Type 0
AsksNoSubject model command = (subject : Subject) → AsksSubject model command subject → ⊥

-- what the command names: the subject on which it asks for the decision to be taken out, or nothing
abbrev pub NamesSubject : Model → Command → Option Subject → Type 0
NamesSubject model command answer = MatchOption answer (AsksNoSubject model command) (AsksSubject model command)

-- the one subject stands for the other: it is the same, but that values of a constraint may be other ones outside the range of
-- values
abbrev pub StandsForSubject : Subject → Subject → Type 0
StandsForSubject (subjects.Constraint kind given) (subjects.Constraint other asked) =
    StandsForDecision (decisions.Constrain kind given) (decisions.Constrain other asked)
StandsForSubject subject asked = subject ≡ asked

-- what is answered of a command: nothing, or a subject that stands for the one that it names
abbrev pub FindsSubject : Model → Command → Option Subject → Type 0
FindsSubject model command answer =
    MatchOption answer (AsksNoSubject model command)
    (λ subject. (asked : Subject) × (AsksSubject model command asked × StandsForSubject subject asked))

-- ---- replies

-- the reply is one of these, or memory was wanting for one
abbrev pub Answers : (List ℕ → Database → Type 0) → Database → Result (List ℕ) AllocError → Database → Type 0
Answers IsReplied old (Ok reply) new = IsReplied reply new
Answers IsReplied old (Err none) new = IsLost IsReplied old new

-- what a command is answered
abbrev pub AnswersCommand : Database → Command → Result (List ℕ) AllocError → Database → Type 0
AnswersCommand old command result new = Answers (RepliesTo old command) old result new
