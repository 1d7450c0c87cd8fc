-- Faults of a program, and which of them comes first.
use Rattle.std.specs.Prelude.{◌≡◌, ℕ, ◌<◌, ◌⊎◌, ◌||◌, ◌&&◌, ◌==◌, nat_lt, Bool, List, [], ◌∷◌, Option}
use Rattle.std.specs.Prelude.{Some, None, Contains, if◌then◌else◌}
use Rattle.eu_name.specs.NameOrder.{ByNumber}
use Rattle.nddl_ast.specs.Kinds.{kind_rank}
use Rattle.nddl_ast.specs.declared.kind.TextKind.{TextKind}
use Rattle.nddl_symbols.specs.declared.fault.Fault.{Fault}

-- the one comes before the other by its place, and at one place by its kind
abbrev pub IsFaultBefore : Fault → Fault → Type 0
IsFaultBefore one other =
    ByNumber one.place.decl other.place.decl
    (ByNumber one.place.at other.place.at (kind_rank one.kind < kind_rank other.kind))

-- whether it does
abbrev pub is_fault_before : Fault → Fault → Bool
is_fault_before one other =
    nat_lt one.place.decl other.place.decl || (one.place.decl == other.place.decl
    && (nat_lt one.place.at other.place.at || (one.place.at == other.place.at
    && nat_lt (kind_rank one.kind) (kind_rank other.kind))))

-- the earlier of a fault, if there is one, and another
abbrev pub earlier_fault : Option Fault → Fault → Option Fault
earlier_fault None fault = Some fault
earlier_fault (Some found) fault = if is_fault_before fault found then Some fault else Some found

-- the earliest of a fault, if there is one, and others; of two at one place of one kind the first
abbrev pub earliest_fault : Option Fault → List Fault → Option Fault
earliest_fault first [] = first
earliest_fault first (fault ∷ faults) = earliest_fault (earlier_fault first fault) faults

-- there is one that doesn't come after the fault
abbrev pub HasNoLater : Option Fault → Fault → Type 0
HasNoLater first fault = (found : Fault) × (first ≡ Some found) × (IsFaultBefore fault found → ⊥)

-- after the old one, and after each fault of this sort, the new one is known: it is one of them, and none comes before it
pub record Finds (IsIt : Fault → Type 0) (old new : Option Fault) : Type 0 where
  pub found : (fault : Fault) → new ≡ Some fault → (old ≡ Some fault) ⊎ IsIt fault
  pub first : (fault : Fault) → (old ≡ Some fault) ⊎ IsIt fault → HasNoLater new fault

-- the earliest of faults is one of them, and none of them comes before it
abbrev pub FindsEarliest : Type 0
FindsEarliest = (old : Option Fault) (faults : List Fault) → Finds (Contains faults) old (earliest_fault old faults)

-- the fault of this kind at the byte of the declaration of this number, if there is a kind
abbrev pub faults_here : ℕ → ℕ → Option TextKind → List Fault
faults_here decl at None = []
faults_here decl at (Some kind) = record { place = record { decl = decl; at = at }; kind = kind } ∷ []
