-- What variables may be whose types are names, where names may share it.
use Rattle.std.specs.Prelude.{◌≡◌, ◌<◌, ℕ, List, Option, Some, length, slice_get}
use Rattle.std.specs.Option.{option_and_then}
use Rattle.nddl_terms.specs.declared.lexicon.Shape.{Shape}

-- what a variable may be whose type is the name of this number
abbrev pub type_named : List (Option Shape) → ℕ → Option Shape
type_named types number = option_and_then (λ shape. shape) (slice_get types number)

-- the place of the shape of the name of this number
abbrev pub place_in : List (Option ℕ) → ℕ → Option ℕ
place_in places number = option_and_then (λ place. place) (slice_get places number)

-- the shape at this place, if the name has one
abbrev pub placed_shape : List Shape → Option ℕ → Option Shape
placed_shape shapes place = option_and_then (slice_get shapes) place

-- each place has a shape
abbrev pub ArePlaced : List Shape → List (Option ℕ) → Type 0
ArePlaced shapes places =
    (number place : ℕ) → slice_get places number ≡ Some (Some place) → place < length shapes
