-- Constraints that wait or are consistent.
use Rattle.std.specs.Prelude.{◌≡◌, ℕ, ◌≤◌, List, All, Some, ◌⊎◌, Contains, slice_get, length}
use Rattle.domain_core.specs.Domain.{Domain}
use Rattle.narrow_core.specs.declared.field.Field.{Field}
use Rattle.constraint_net.specs.Agendas.{HasVariables, Waits, Watches}
use Rattle.constraint_net.specs.Arguments.{IsArgument}
use Rattle.constraint_net.specs.Networks.{IsConsistent, CanPost}
use Rattle.constraint_net.specs.declared.agenda.Agenda.{Agenda}
use Rattle.constraint_net.specs.declared.constraint.Constraint.{Constraint}
use Rattle.constraint_net.specs.declared.constraint.NetArg.TheVariants.{Var}

-- the constraint of this number, if there is one, is consistent
abbrev pub IsConsistentAt : List Field → List Constraint → ℕ → List Domain → Type 0
IsConsistentAt tables constraints number domains =
    (constraint : Constraint) → slice_get constraints number ≡ Some constraint → IsConsistent tables constraint domains

-- each constraint could be posted
abbrev pub WerePosted : List Field → ℕ → List Constraint → Type 0
WerePosted tables variables constraints =
    All (λ constraint. CanPost tables variables constraint.kind constraint.args) constraints

-- the arguments of the constraints are among so many variables
abbrev pub NameWithin : ℕ → List Constraint → Type 0
NameWithin variables constraints = All (λ constraint. All (IsArgument variables) constraint.args) constraints

-- each constraint waits or is consistent, and is told when a variable that it names changes
pub record IsKeptAgenda (tables : List Field) (constraints : List Constraint) (domains : List Domain)
    (agenda : Agenda) : Type 0 where
  pub variables : HasVariables (length domains) agenda
  pub room : length constraints ≤ agenda.waiting.room
  pub watched : (number : ℕ) (constraint : Constraint) → slice_get constraints number ≡ Some constraint
      → (variable : ℕ) → Contains constraint.args (Var variable) → Watches agenda number variable
  pub covered : (number : ℕ) → Waits agenda number ⊎ IsConsistentAt tables constraints number domains
