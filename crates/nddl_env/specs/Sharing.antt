-- Which typedefs mean the same.
use Rattle.std.specs.Prelude.{◌≡◌, ℕ, ◌+◌, ◌++◌, List, Option, Some, length, slice_get}
use Rattle.std.specs.Option.{option_map}
use Rattle.nddl_typeexpr.specs.Bases.{typedef_meaning}
use Rattle.nddl_typeexpr.specs.declared.kind.TypeMeaning.{TypeMeaning}
use Rattle.nddl_terms.specs.declared.lexicon.Shape.{Shape}
use Rattle.nddl_env.specs.Shapes.{World, shape_with}

-- what a variable of the typedef of this number may be
abbrev pub typedef_shape : World → ℕ → Option Shape
typedef_shape world entry = option_map (shape_with world) (typedef_meaning world.facts.known entry)

-- some typedef has this number and means this
abbrev pub IsAlike : List (Option TypeMeaning) → List (Option ℕ) → TypeMeaning → ℕ → Type 0
IsAlike known numbers meaning number =
    (entry : ℕ) × (slice_get numbers entry ≡ Some (Some number)) × (typedef_meaning known entry ≡ Some meaning)

-- Of so many names, those that have a number are typedefs, and what a variable of one may be has this number.
pub record AreNumbered (world : World) (many : ℕ) (types : List (Option Shape)) (numbers : List (Option ℕ)) : Type 0 where
  pub count : length numbers ≡ many
  pub each : (entry number : ℕ) → slice_get numbers entry ≡ Some (Some number)
      → slice_get types number ≡ Some (typedef_shape world entry)

-- with the name of this number these have come, and the typedefs up to it are numbered
pub record Adds (world : World) (entry : ℕ) (more old new : List (Option Shape)) (numbers : List (Option ℕ)) : Type 0 where
  pub types : new ≡ old ++ more
  pub numbered : AreNumbered world (entry + 1) new numbers
