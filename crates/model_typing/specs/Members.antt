-- Members of enums by their places.
use Rattle.std.specs.Prelude.{◌≡◌, ℕ, ℤ, pos, List, Some, slice_get}
use Rattle.model_core.specs.declared.class.Enum.{Enum}

-- the value is the place of this member
abbrev pub IsMemberAt : Enum → ℤ → List ℕ → Type 0
IsMemberAt found value member = (place : ℕ) × (value ≡ pos place) × (slice_get found.members place ≡ Some member)

-- the value is the place of a member
abbrev pub HasMember : Enum → ℤ → Type 0
HasMember found value = (member : List ℕ) × IsMemberAt found value member
