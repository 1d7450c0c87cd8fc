-- Shapes that are found by their places.
use Rattle.std.proofs.Common.{◌≡◌, ℕ, zero, suc, ◌<◌, List, [], ◌∷◌, ◌++◌, length, map, refl, sym, ◌∙◌, ap, arith}
use Rattle.std.specs.Prelude.{Option, Some, None, slice_get}
use Rattle.std.specs.Option.{option_and_then, option_map}
use Rattle.std.proofs.lemmas.List.{map-append}
use Rattle.std.proofs.lemmas.Option.{slice_get-map}
use Rattle.nddl_terms.specs.declared.lexicon.Shape.{Shape}
use Rattle.nddl_terms.specs.TypeShapes.{ArePlaced, place_in, placed_shape, type_named}

-- what is seen of each name
abbrev seen : List Shape → List (Option ℕ) → List (Option Shape)
seen shapes places = map (placed_shape shapes) places

-- the shape of a name is the one at its place
pub named_at : (shapes : List Shape) (places : List (Option ℕ)) (number : ℕ)
    → type_named (seen shapes places) number ≡ placed_shape shapes (place_in places number)
named_at shapes places number =
    ap (option_and_then (λ shape. shape)) (slice_get-map (placed_shape shapes) places number) ∙ by (slice_get places number)
  where
    by : (found : Option (Option ℕ)) → option_and_then (λ shape. shape) (option_map (placed_shape shapes) found)
        ≡ placed_shape shapes (option_and_then (λ place. place) found)
    by None = refl
    by (Some place) = refl

-- ---- one more at the end

before : (shapes : List Shape) (more : Shape) (place : ℕ) → place < length shapes → slice_get (shapes ++ more ∷ []) place ≡ slice_get shapes place
before [] more place within = absurd (omega (arith, within))
before (shape ∷ shapes) more zero within = refl
before (shape ∷ shapes) more (suc place) within = before shapes more place (omega (arith, within))

at_end : (shapes : List Shape) (more : Shape) → slice_get (shapes ++ more ∷ []) (length shapes) ≡ Some more
at_end [] more = refl
at_end (shape ∷ shapes) more = at_end shapes more

one_before : (shapes : List Shape) (more : Shape) (found : Option ℕ) → ((place : ℕ) → found ≡ Some place → place < length shapes)
    → placed_shape (shapes ++ more ∷ []) found ≡ placed_shape shapes found
one_before shapes more None within = refl
one_before shapes more (Some place) within = before shapes more place (within place refl)

same_seen : (shapes : List Shape) (more : Shape) (places : List (Option ℕ)) → ArePlaced shapes places → seen (shapes ++ more ∷ []) places ≡ seen shapes places
same_seen shapes more [] placed = refl
same_seen shapes more (found ∷ places) placed =
    ap (λ first. first ∷ seen (shapes ++ more ∷ []) places) (one_before shapes more found (λ place is. placed zero place (ap Some is)))
    ∙ ap (λ rest. placed_shape shapes found ∷ rest) (same_seen shapes more places (λ number place at. placed (suc number) place at))

-- what is seen with one name more, whose shape is at this place
pub one_more : (shapes : List Shape) (places new : List (Option ℕ)) (found : Option ℕ) (old : List (Option Shape)) (shape : Option Shape)
    → old ≡ seen shapes places → new ≡ places ++ found ∷ [] → placed_shape shapes found ≡ shape → seen shapes new ≡ old ++ shape ∷ []
one_more shapes places new found old shape was is at =
    ap (seen shapes) is
    ∙ (map-append (placed_shape shapes) places (found ∷ [])
    ∙ (λ i. sym was i ++ at i ∷ []))

-- and whose shape is new
pub new_more : (shapes all : List Shape) (places new : List (Option ℕ)) (place : ℕ) (old : List (Option Shape)) (shape : Shape) → ArePlaced shapes places
    → old ≡ seen shapes places → all ≡ shapes ++ shape ∷ [] → place ≡ length shapes → new ≡ places ++ Some place ∷ []
    → seen all new ≡ old ++ Some shape ∷ []
new_more shapes all places new place old shape placed was are at is =
    ap (λ some. seen some new) are
    ∙ one_more (shapes ++ shape ∷ []) places new (Some place) old (Some shape) (was ∙ sym (same_seen shapes shape places placed)) is
    (ap (slice_get (shapes ++ shape ∷ [])) at ∙ at_end shapes shape)
