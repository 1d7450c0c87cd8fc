-- Networks: variables with their domains, and the constraints on them.
use Rattle.std.specs.Prelude.{◌≡◌, ◌≢◌, ℕ, ◌<◌, ℤ, pos, List, [], ◌∷◌, All, length, ⊤, slice_get, IsSomeAnd}
use Rattle.domain_core.specs.Domain.{Domain}
use Rattle.cell_store.specs.Cells.{Celled}
use Rattle.domain_core.specs.Constraints.{AgreeOn, arity_of}
use Rattle.domain_core.specs.declared.kind.Kind.{Kind}
use Rattle.domain_core.specs.declared.kind.Kind.TheVariants as kind
use Rattle.narrow_core.specs.Meanings.{IsInTable}
use Rattle.narrow_core.specs.declared.field.Field.{Field}
use Rattle.constraint_net.specs.Arguments.{IsArgument, domains_of}
use Rattle.constraint_net.specs.declared.constraint.NetArg.{NetArg}
use Rattle.constraint_net.specs.declared.constraint.NetArg.TheVariants.{Lit}
use Rattle.constraint_net.specs.declared.constraint.Constraint.{Constraint}

-- a network: the domains of its variables, the tables of fields, the constraints in the order in which they were
-- posted, how many narrowings it has made, how often each domain was written, the lists of domains before the present
-- one that can be gone back to, the latest place to which a mark goes, the variables that have changed since they were
-- taken off this list, and how many constraints stand before the first one that waits to be narrowed
pub record Network : Type 0 where
  pub domains : List Domain
  pub tables : List Field
  pub constraints : List Constraint
  pub work : ℕ
  pub stamps : List ℕ
  pub older : List (List Domain)
  pub marked : ℕ
  pub changed : List ℕ
  pub quiet : ℕ

-- nothing is to be looked at: no constraint waits to be narrowed, and no variable is noted as changed
pub record IsIdle (net : Network) : Type 0 where
  pub quiet : net.quiet ≡ length net.constraints
  pub heeded : net.changed ≡ []

-- its variables as cells
abbrev pub cells_of : Network → Celled
cells_of net = record { past = net.domains ∷ net.older; stamps = net.stamps }

-- the table of this number gives the object this value
abbrev pub field_of : List Field → ℕ → ℤ → ℤ → Type 0
field_of tables number object value =
    IsSomeAnd (slice_get tables number) (λ table. IsInTable table.entries object value)

-- the constraint is consistent in these domains of the variables
abbrev pub IsConsistent : List Field → Constraint → List Domain → Type 0
IsConsistent tables constraint domains = AgreeOn (field_of tables) constraint.kind (domains_of domains constraint.args)

-- all the constraints are
abbrev pub AllConsistent : List Field → List Constraint → List Domain → Type 0
AllConsistent tables constraints domains = All (λ constraint. IsConsistent tables constraint domains) constraints

-- the second of three arguments is written, and other than 0
abbrev pub HasFactor : List NetArg → Type 0
HasFactor (x ∷ Lit factor ∷ z ∷ []) = factor ≢ pos 0
HasFactor args = ⊥

-- what some kinds ask beside the count of their arguments: a product has a factor, and a field a table; that all
-- differ is no constraint of a network
abbrev pub IsAllowed : List Field → Kind → List NetArg → Type 0
IsAllowed tables kind.MulEq args = HasFactor args
IsAllowed tables (kind.Field number) args = number < length tables
IsAllowed tables kind.AllDiff args = ⊥
IsAllowed tables kind args = ⊤

-- a constraint of this kind may be posted on these arguments
pub record CanPost (tables : List Field) (variables : ℕ) (kind : Kind) (args : List NetArg) : Type 0 where
  pub arguments : All (IsArgument variables) args
  pub count : length args ≡ arity_of kind
  pub allowed : IsAllowed tables kind args
