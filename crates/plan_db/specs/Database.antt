-- A model with the decisions taken in it, and what each call changes of that.
use Rattle.std.specs.Prelude.{◌≡◌, Bool, true, false, List, [], ◌∷◌, ◌++◌, Contains, Result, Ok, Err}
use Rattle.domain_core.specs.Domain.{Domain}
use Rattle.eu_name.specs.declared.name.VarName.{VarName}
use Rattle.model_core.specs.declared.decision.Decision.{Decision}
use Rattle.model_core.specs.declared.model.Model.{Model}
use Rattle.model_core.specs.History.{History, standing, accepted}
use Rattle.model_core.specs.Lawful.{IsLawful}
use Rattle.model_core.specs.State.{State, Gives}
use Rattle.plan_defs.specs.Closure.{IsLeast, IsCollapsed}
use Rattle.plan_defs.specs.Refusals.{IsRefused, IsAdmissible}
use Rattle.model_core.specs.declared.refusal.Refusal.TheVariants.{Unknown, WrongType, Decided, NotInDomain, NotActive, NotSamePredicate, NotRejectable, SameToken, ActiveFull}
use Rattle.model_core.specs.declared.refusal.Refusal.{Refusal}
use Rattle.plan_defs.specs.Settling.{Settles}
use Rattle.plan_defs.specs.History.{IsHistory}
use Rattle.decision_log.specs.Undoing.{IsFormer}
use Rattle.db_history.specs.declared.subject.Subject.{Subject}
use Rattle.db_history.specs.Subjects.{IsOfSubject}
use Rattle.plan_db.specs.declared.fault.Outcome.{Outcome}
use Rattle.plan_db.specs.declared.fault.Outcome.TheVariants.{Consistent, Inconsistent}
use Rattle.plan_db.specs.declared.fault.DbFault.{DbFault}
use Rattle.plan_db.specs.declared.fault.DbFault.TheVariants as fault
use Rattle.plan_db.specs.declared.fault.QueryFault.{QueryFault}
use Rattle.plan_db.specs.declared.fault.QueryFault.TheVariants as query

-- a model with the decisions taken in it; what is possible follows from these
pub record Database : Type 0 where
  pub model : Model
  pub history : History

-- that model with that history
abbrev pub taken_in : Model → History → Database
taken_in model history = record { model = model; history = history }

-- what a database is never without
pub record IsSound (database : Database) : Type 0 where
  pub lawful : IsLawful database.model
  pub history : IsHistory database.model database.history

-- the decisions that stand leave a state, and this is the least
abbrev pub HasLeast : Database → State → Type 0
HasLeast database state = IsLeast database.model (standing database.history) state

-- the decisions that stand leave nothing
abbrev pub HasCollapsed : Database → Type 0
HasCollapsed database = IsCollapsed database.model (standing database.history)

-- whether the decisions that stand still leave something possible
abbrev pub OutcomeIs : Database → Outcome → Type 0
OutcomeIs database Consistent = (state : State) × HasLeast database state
OutcomeIs database Inconsistent = HasCollapsed database

-- the decision is refused for this reason
abbrev pub RefusesFor : Database → Decision → Refusal → Type 0
RefusesFor database decision reason = IsRefused database.model (standing database.history) decision reason

-- the outcome by whether there is a least state
abbrev pub outcome_for : Bool → Outcome
outcome_for true = Consistent
outcome_for false = Inconsistent

-- what taking a decision answers and leaves; memory can be wanting only where the decision may be taken
abbrev pub Applies : Database → Decision → Result Outcome DbFault → Database → Type 0
Applies old decision (Ok outcome) new =
    IsAdmissible old.model (standing old.history) decision
    × (new ≡ taken_in old.model (accepted old.history decision))
    × OutcomeIs new outcome
Applies old decision (Err fault.InInconsistent) new = (new ≡ old) × HasCollapsed old
Applies old decision (Err fault.Unknown) new = (new ≡ old) × RefusesFor old decision Unknown
Applies old decision (Err fault.WrongType) new = (new ≡ old) × RefusesFor old decision WrongType
Applies old decision (Err fault.Decided) new = (new ≡ old) × RefusesFor old decision Decided
Applies old decision (Err fault.NotInDomain) new = (new ≡ old) × RefusesFor old decision NotInDomain
Applies old decision (Err fault.NotActive) new = (new ≡ old) × RefusesFor old decision NotActive
Applies old decision (Err fault.NotSamePredicate) new = (new ≡ old) × RefusesFor old decision NotSamePredicate
Applies old decision (Err fault.NotRejectable) new = (new ≡ old) × RefusesFor old decision NotRejectable
Applies old decision (Err fault.Same) new = (new ≡ old) × RefusesFor old decision SameToken
Applies old decision (Err fault.ActiveFull) new = (new ≡ old) × RefusesFor old decision ActiveFull
Applies old decision (Err fault.Memory) new = (new ≡ old) × IsAdmissible old.model (standing old.history) decision
Applies old decision (Err _) new = ⊥

-- a former list stands below the standing one
abbrev pub HasFormer : History → Type 0
HasFormer history = (former : List Decision) × IsFormer history former

-- the last step put a decision at the end
abbrev pub EndsAccepted : History → Type 0
EndsAccepted history = (before : History) × ((decision : Decision) × (history ≡ accepted before decision))

-- what undoing the last step answers and leaves; memory can be wanting only where decisions were taken out in it
abbrev pub TakesBack : Database → Result Outcome DbFault → Database → Type 0
TakesBack old (Ok outcome) new =
    (new.model ≡ old.model) × (old.history ≡ standing old.history ∷ new.history) × OutcomeIs new outcome
TakesBack old (Err fault.Nothing) new = (new ≡ old) × (old.history ≡ [] ∷ [])
TakesBack old (Err fault.Memory) new = (new ≡ old) × HasFormer old.history × (EndsAccepted old.history → ⊥)
TakesBack old (Err _) new = ⊥

-- what taking the last decision back answers and leaves
abbrev pub Backtracks : Database → Result (Unit {0}) DbFault → Database → Type 0
Backtracks old (Ok done) new =
    (new.model ≡ old.model) × ((decision : Decision) × (old.history ≡ accepted new.history decision))
    × ((state : State) × HasLeast new state)
Backtracks old (Err fault.Nothing) new = (new ≡ old) × (EndsAccepted old.history → ⊥)
Backtracks old (Err _) new = ⊥

-- one decision, which is on the subject, is taken out, and the rest is settled
pub record TakesOutOn (model : Model) (subject : Subject) (below list : List Decision) : Type 0 where
  pub front : List Decision
  pub decision : Decision
  pub back : List Decision
  pub parts : below ≡ front ++ decision ∷ back
  pub on : IsOfSubject subject decision
  pub settles : Settles model (front ++ back) list

-- a decision on the subject stands
abbrev pub HasDecisionOn : Database → Subject → Type 0
HasDecisionOn database subject =
    (decision : Decision) × Contains (standing database.history) decision × IsOfSubject subject decision

-- what taking out the decision on a subject answers and leaves; memory can be wanting only where there is one
abbrev pub Resets : Database → Subject → Result Outcome DbFault → Database → Type 0
Resets old subject (Ok outcome) new =
    (new.model ≡ old.model) × (new.history ≡ standing new.history ∷ old.history)
    × TakesOutOn old.model subject (standing old.history) (standing new.history) × OutcomeIs new outcome
Resets old subject (Err fault.NoSuchDecision) new = (new ≡ old) × (HasDecisionOn old subject → ⊥)
Resets old subject (Err fault.Memory) new = (new ≡ old) × HasDecisionOn old subject
Resets old subject (Err _) new = ⊥

-- what is told of a variable that the least state has
abbrev pub IsTold : Database → VarName → Domain → Type 0
IsTold database name domain = (state : State) × HasLeast database state × Gives state name domain

-- why nothing is told of a variable
abbrev pub IsUntold : Database → VarName → QueryFault → Type 0
IsUntold database name query.Inconsistent = HasCollapsed database
IsUntold database name query.Unknown =
    (state : State) × HasLeast database state × ((domain : Domain) → Gives state name domain → ⊥)
IsUntold database name query.Behind = ⊥
