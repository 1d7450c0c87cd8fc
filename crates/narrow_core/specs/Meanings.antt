-- What the constraints hold of that know something of their own.
use Rattle.std.specs.Prelude.{◌≡◌, ℤ, ◌*ℤ◌, ◌≤ℤ◌, List, [], ◌∷◌, AllPairs, Contains}
use Rattle.narrow_core.specs.declared.field.FieldEntry.{FieldEntry}

-- the second value is the first times the factor
abbrev pub IsProduct : ℤ → List ℤ → Type 0
IsProduct factor (x ∷ z ∷ []) = (x *ℤ factor) ≡ z
IsProduct factor values = ⊥

-- the table has an entry that gives this object this value
abbrev pub IsInTable : List FieldEntry → ℤ → ℤ → Type 0
IsInTable entries object value =
    (entry : FieldEntry) × Contains entries entry × (entry.object ≡ object) × (entry.value ≡ value)

-- the entries are in the order of their objects
abbrev pub IsByObject : List FieldEntry → Type 0
IsByObject entries = AllPairs (λ one later. one.object ≤ℤ later.object) entries
