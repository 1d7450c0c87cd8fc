-- What the calls of a network answer and leave.
use Rattle.std.specs.Prelude.{◌≡◌, ℕ, ◌<◌, ℤ, ◌<ℤ◌, List, [], ◌∷◌, ◌++◌, length, map, slice_index_or}
use Rattle.std.specs.Prelude.{AllPairs, Contains, ◌⊎◌, Option, Some, None, Result, Ok, Err}
use Rattle.std.specs.declared.alloc.AllocError.{AllocError}
use Rattle.domain_core.specs.Domain.{Domain}
use Rattle.domain_core.specs.declared.Change.{Change}
use Rattle.domain_core.specs.declared.Change.TheVariants.{Empty}
use Rattle.cell_store.specs.Cells.{domain_at, KeepsPast, FollowsDomain}
use Rattle.domain_core.specs.declared.kind.Kind.{Kind}
use Rattle.narrow_core.specs.declared.field.Field.{Field}
use Rattle.narrow_core.specs.declared.field.FieldEntry.{FieldEntry}
use Rattle.constraint_net.specs.Networks.{Network}
use Rattle.constraint_net.specs.Limits.{LimitsAt}
use Rattle.constraint_net.specs.declared.constraint.NetArg.{NetArg}

-- each object is less than all later ones, so none stands twice
abbrev pub IsAscending : List (ℤ × ℤ) → Type 0
IsAscending pairs = AllPairs (λ one later. one.0 <ℤ later.0) pairs

-- what each pair gives an object
abbrev pub given_by : List (ℤ × ℤ) → List FieldEntry
given_by pairs = map (λ pair. record { object = pair.0; value = pair.1 }) pairs

-- the table of the pairs
abbrev pub table_of : List (ℤ × ℤ) → Field
table_of pairs = record { entries = given_by pairs }

-- the constraint stands behind those that were posted before; without memory nothing changes
abbrev pub Posts : Network → Kind → List NetArg → Result (Unit {0}) AllocError → Network → Type 0
Posts old kind args (Ok done) new =
    new ≡ record old { constraints = old.constraints ++ record { kind = kind; args = args } ∷ [] }
Posts old kind args (Err none) new = new ≡ old

-- a variable of this domain stands behind the others, and was never written; without memory nothing changes
abbrev pub AddsVar : Domain → Network → Result ℕ AllocError → Network → Type 0
AddsVar domain old (Ok number) new =
    (number ≡ length old.domains) × (new ≡ record old {
      domains = old.domains ++ domain ∷ [];
      stamps = old.stamps ++ 0 ∷ [];
      older = old.domains ∷ old.older;
    })
AddsVar domain old (Err none) new = new ≡ old

-- what was noted still is, and so is each variable that there is now and that has changed
pub record Notes (old new : List Domain) (noted notes : List ℕ) : Type 0 where
  pub kept : (variable : ℕ) → Contains noted variable → Contains notes variable
  pub each : (variable : ℕ) → variable < length new
      → (domain_at new variable ≡ domain_at old variable) ⊎ Contains notes variable

-- the variable stood first among those that were noted, and is taken off; none did
abbrev pub TakesChanged : Network → Option ℕ → Network → Type 0
TakesChanged old (Some variable) new =
    (others : List ℕ) × ((old.changed ≡ variable ∷ others) × (new ≡ record old { changed = others }))
TakesChanged old None new = (old.changed ≡ []) × (new ≡ old)

-- domains have got less: tables and constraints are as before, the stamps follow the domains, what has changed is
-- noted, and what could be gone back to by a mark still can
pub record GoesDown (old new : Network) : Type 0 where
  pub tables : new.tables ≡ old.tables
  pub constraints : new.constraints ≡ old.constraints
  pub marked : new.marked ≡ old.marked
  pub past : KeepsPast old.marked (old.domains ∷ old.older) (new.domains ∷ new.older)
  pub stamps : length new.stamps ≡ length old.stamps
  pub follow : (variable : ℕ) → variable < length old.domains
      → FollowsDomain (domain_at old.domains variable) (slice_index_or old.stamps variable 0)
      (domain_at new.domains variable) (slice_index_or new.stamps variable 0)
  pub notes : Notes old.domains new.domains old.changed new.changed

-- the variable keeps what the other domain has too; where that is nothing, and without memory, nothing changes
abbrev pub Limits : Network → ℕ → Domain → Result Change AllocError → Network → Type 0
Limits old variable to (Ok change) new =
    LimitsAt old.domains variable to change new.domains × GoesDown old new
    × (new.work ≡ old.work) × (change ≡ Empty → new ≡ old)
Limits old variable to (Err none) new = new ≡ old
