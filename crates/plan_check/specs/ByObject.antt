-- The lines whose tokens are on one object, one after the other.
use Rattle.std.specs.Prelude.{◌≡◌, ℕ, ◌+◌, ◌<◌, ◌≤◌, pos, List}
use Rattle.std.specs.Prelude.{Option, Some, None, MatchOption, length, get_or, slice_get}
use Rattle.eu_name.specs.declared.name.Part.TheVariants.{Object}
use Rattle.plan_defs.specs.declared.plan.Line.{Line}
use Rattle.plan_defs.specs.declared.plan.Line.TheVariants as lines
use Rattle.plan_defs.specs.Valid.{IsPartOf}
use Rattle.plan_check.specs.declared.by_object.LinesByObject.{LinesByObject}

-- by the line a token takes place on the object of this number
abbrev pub IsOnObject : Line → ℕ → Type 0
IsOnObject (lines.Token token fact values) object = IsPartOf values Object (pos object)
IsOnObject line object = ⊥

-- by the line at this place it does
abbrev pub IsLineOn : List Line → ℕ → ℕ → Type 0
IsLineOn listed object place = (line : Line) × (slice_get listed place ≡ Some line) × IsOnObject line object

-- the line at this place is the first on the object, of those from the other place on
pub record IsFirstOn (listed : List Line) (object from place : ℕ) : Type 0 where
  pub within : from ≤ place
  pub on : IsLineOn listed object place
  pub before : (earlier : ℕ) → from ≤ earlier → earlier < place → IsLineOn listed object earlier → ⊥

-- of the lines from this place on none is on the object, or this is the first
abbrev pub FindsOn : List Line → ℕ → ℕ → Option ℕ → Type 0
FindsOn listed object from found =
    MatchOption found
    ((place : ℕ) → from ≤ place → IsLineOn listed object place → ⊥)
    (IsFirstOn listed object from)

-- the lines from this place on are linked: for each object, of so many, the first of them, and for each of them the next
pub record AreLinked (listed : List Line) (count from : ℕ) (by_object : LinesByObject) : Type 0 where
  pub objects : length by_object.first.items ≡ count
  pub places : length by_object.next.items ≡ length listed
  pub first : (object : ℕ) → object < count
      → FindsOn listed object from (get_or by_object.first.items object None)
  pub next : (object place : ℕ) → object < count → from ≤ place → IsLineOn listed object place
      → FindsOn listed object (place + 1) (get_or by_object.next.items place None)
