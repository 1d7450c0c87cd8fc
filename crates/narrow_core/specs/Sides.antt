-- The two sides of a table.
use Rattle.std.specs.Prelude.{◌≡◌, ℤ, ◌≤ℤ◌, ◌⊎◌, List, Option, Some, None, Contains}
use Rattle.domain_core.specs.Domain.{Domain, Has}
use Rattle.narrow_core.specs.declared.field.FieldEntry.{FieldEntry}
use Rattle.narrow_core.specs.declared.field.Side.{Side}
use Rattle.narrow_core.specs.declared.field.Side.TheVariants.{Object, Value}
use Rattle.narrow_core.specs.declared.field.Span.{Span}

-- what the entry has on this side
abbrev pub side_of : FieldEntry → Side → ℤ
side_of entry Object = entry.object
side_of entry Value = entry.value

-- the other side
abbrev pub opposite : Side → Side
opposite Object = Value
opposite Value = Object

-- the entry has the value on this side, and on the other one something that the other domain has
abbrev pub Pairs : FieldEntry → Side → Domain → ℤ → Type 0
Pairs entry side other value = (side_of entry side ≡ value) × Has other (side_of entry (opposite side))

-- some entry does
abbrev pub IsPaired : List FieldEntry → Side → Domain → ℤ → Type 0
IsPaired entries side other value = (entry : FieldEntry) × Contains entries entry × Pairs entry side other value

-- the first and the last value of the domain that are paired, or none where none is
abbrev pub Spans : List FieldEntry → Side → Domain → Domain → Option Span → Type 0
Spans entries side own other None = (value : ℤ) → Has own value → IsPaired entries side other value → ⊥
Spans entries side own other (Some span) =
    (Has own span.first × IsPaired entries side other span.first)
    × (Has own span.last × IsPaired entries side other span.last)
    × ((value : ℤ) → Has own value → IsPaired entries side other value → (span.first ≤ℤ value) × (value ≤ℤ span.last))

-- the span of a value more
abbrev pub IsWidened : Option Span → ℤ → Span → Type 0
IsWidened None value new = (new.first ≡ value) × (new.last ≡ value)
IsWidened (Some old) value new =
    ((new.first ≡ old.first) ⊎ (new.first ≡ value)) × (new.first ≤ℤ old.first) × (new.first ≤ℤ value)
    × ((new.last ≡ old.last) ⊎ (new.last ≡ value)) × (old.last ≤ℤ new.last) × (value ≤ℤ new.last)
