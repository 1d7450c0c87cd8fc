-- What a database holds, and what each call answers and leaves. While it is behind, nothing but rebuilding is done.
use Rattle.std.specs.Prelude.{◌≡◌, ℕ, Bool, true, false, List, Result, Ok, Err}
use Rattle.domain_core.specs.Domain.{Domain}
use Rattle.eu_name.specs.declared.name.VarName.{VarName}
use Rattle.model_core.specs.declared.decision.Decision.{Decision}
use Rattle.model_core.specs.declared.model.Model.{Model}
use Rattle.model_core.specs.History.{History, standing}
use Rattle.model_core.specs.Lawful.{IsLawful}
use Rattle.db_refusals.specs.Seeing.{Seen, seen_state}
use Rattle.db_history.specs.Standing.{Stood}
use Rattle.db_history.specs.declared.subject.Subject.{Subject}
use Rattle.db_history.specs.Kept.{KeepsUnless}
use Rattle.plan_db.specs.declared.fault.Outcome.{Outcome}
use Rattle.plan_db.specs.declared.fault.DbFault.{DbFault}
use Rattle.plan_db.specs.declared.fault.DbFault.TheVariants as fault
use Rattle.plan_db.specs.declared.fault.QueryFault.{QueryFault}
use Rattle.plan_db.specs.declared.fault.QueryFault.TheVariants as query
use Rattle.plan_db.specs.Database.{Database, taken_in, HasLeast, HasCollapsed, Applies, TakesBack, Backtracks, Resets, IsTold}
use Rattle.plan_db.specs.Database.{IsUntold}
use Rattle.plan_db.specs.Stamps.{Stamped, IsStampedAs}

-- what is decided in which model, whether the state that is kept is behind that, and how often its variables were written
pub record Held : Type 0 where
  pub database : Database
  pub behind : Bool
  pub stamps : List Stamped

-- a database of that model with that history and these stamps, which isn't behind
abbrev pub ready_with : Model → History → List Stamped → Held
ready_with model history stamps = record { database = taken_in model history; behind = false; stamps = stamps }

-- what a database keeps: the state of the list that stands, unless it is behind
pub record KeepsDatabase (model : Model) (history : History) (behind : Bool) (stood : Stood) : Type 0 where
  pub lawful : IsLawful model
  pub kept : KeepsUnless behind model history stood

-- it wasn't behind, and isn't
pub record StaysReady (old new : Held) : Type 0 where
  pub before : old.behind ≡ false
  pub after : new.behind ≡ false

-- it was behind, and nothing changes
pub record StaysBehind (old new : Held) : Type 0 where
  pub before : old.behind ≡ true
  pub same : new ≡ old

-- it wasn't behind, and nothing changes
pub record StaysSame (old new : Held) : Type 0 where
  pub before : old.behind ≡ false
  pub same : new ≡ old

-- what taking a decision answers and leaves
abbrev pub AnswersApply : Held → Decision → Result Outcome DbFault → Held → Type 0
AnswersApply old decision (Err fault.Behind) new = StaysBehind old new
AnswersApply old decision (Ok outcome) new = StaysReady old new × Applies old.database decision (Ok outcome) new.database
AnswersApply old decision (Err fault.Memory) new =
    StaysReady old new × Applies old.database decision (Err fault.Memory) new.database
AnswersApply old decision (Err refused) new = StaysSame old new × Applies old.database decision (Err refused) new.database

-- what taking out the decision on a subject does; where memory is wanting the database may be behind
abbrev pub AnswersReset : Held → Subject → Result Outcome DbFault → Held → Type 0
AnswersReset old subject (Err fault.Behind) new = StaysBehind old new
AnswersReset old subject (Ok outcome) new = StaysReady old new × Resets old.database subject (Ok outcome) new.database
AnswersReset old subject (Err fault.Memory) new =
    (old.behind ≡ false) × Resets old.database subject (Err fault.Memory) new.database
AnswersReset old subject (Err refused) new = StaysSame old new × Resets old.database subject (Err refused) new.database

-- and what undoing the last step does
abbrev pub AnswersUndo : Held → Result Outcome DbFault → Held → Type 0
AnswersUndo old (Err fault.Behind) new = StaysBehind old new
AnswersUndo old (Ok outcome) new = StaysReady old new × TakesBack old.database (Ok outcome) new.database
AnswersUndo old (Err fault.Memory) new = (old.behind ≡ false) × TakesBack old.database (Err fault.Memory) new.database
AnswersUndo old (Err refused) new = StaysSame old new × TakesBack old.database (Err refused) new.database

-- what taking the last decision back does, which takes no memory
abbrev pub AnswersBacktrack : Held → Result (Unit {0}) DbFault → Held → Type 0
AnswersBacktrack old (Err fault.Behind) new = StaysBehind old new
AnswersBacktrack old (Ok done) new = StaysReady old new × Backtracks old.database (Ok done) new.database
AnswersBacktrack old (Err refused) new = StaysSame old new × Backtracks old.database (Err refused) new.database

-- why nothing is told of a variable
abbrev pub AnswersNothing : Held → VarName → QueryFault → Type 0
AnswersNothing held name query.Behind = held.behind ≡ true
AnswersNothing held name fault = (held.behind ≡ false) × IsUntold held.database name fault

-- what is told of it
abbrev pub AnswersDomain : Held → VarName → Domain → Type 0
AnswersDomain held name domain = (held.behind ≡ false) × IsTold held.database name domain

-- the view is of the least state, with the decisions that stand
pub record IsSeen (held : Held) (view : Seen) : Type 0 where
  pub ready : held.behind ≡ false
  pub model : view.model ≡ held.database.model
  pub decisions : view.decisions ≡ standing held.database.history
  pub least : HasLeast held.database (seen_state view.stored)

-- why there is nothing to be seen
abbrev pub IsUnseen : Held → QueryFault → Type 0
IsUnseen held query.Behind = held.behind ≡ true
IsUnseen held query.Inconsistent = (held.behind ≡ false) × HasCollapsed held.database
IsUnseen held query.Unknown = ⊥

-- the variable has a stamp: that of the domain that is told of it
abbrev pub AnswersStamp : Held → VarName → ℕ → Type 0
AnswersStamp held name stamp = (domain : Domain) × AnswersDomain held name domain × IsStampedAs held.stamps name domain stamp

-- it has none where nothing is told of it
abbrev pub AnswersNoStamp : Held → VarName → Type 0
AnswersNoStamp held name = (fault : QueryFault) × AnswersNothing held name fault
