-- What lists contain that are made of others.
use Rattle.std.proofs.Common.{◌≡◌, ℕ, zero, suc, ◌+◌, ◌<◌, List, [], ◌∷◌, ◌++◌, length, get_or, refl, sym, ◌∙◌, ap, subst, arith}
use Rattle.std.specs.Prelude.{Option, Some, None, Contains, slice_get}
use Rattle.std.specs.List.{filter_map, flat_map, cons_option}
use Rattle.std.proofs.lemmas.List.Elements.{Contains-append_left, Contains-append_right}
use Rattle.model_core.proofs.Items.{item_is, item_within}

-- what stands at a place is there
pub contains_at : {X : Type 0} (xs : List X) (place : ℕ) (x : X) → slice_get xs place ≡ Some x → Contains xs x
contains_at xs place x at = (place, item_within xs place x at, item_is xs place x x at)

pub contains_kept : {X Y : Type 0} (f : X → Option Y) (xs : List X) (x : X) (y : Y) → Contains xs x → f x ≡ Some y → Contains (filter_map f xs) y
contains_kept {X} {Y} f xs x y has is = go xs has.0 has.1 has.2
  where
    later : (o : Option Y) (rest : List Y) → Contains rest y → Contains (cons_option o rest) y
    later None rest there = there
    later (Some z) rest there = Contains-append_right (z ∷ []) rest y there

    go : (xs : List X) (k : ℕ) → k < length xs → get_or xs k x ≡ x → Contains (filter_map f xs) y
    go [] k within here = absurd (omega arith)
    go (z ∷ xs) zero within here =
        subst (λ o. Contains (cons_option o (filter_map f xs)) y) (sym (ap f here ∙ is)) (0, omega arith, refl)
    go (z ∷ xs) (suc k) within here = later (f z) (filter_map f xs) (go xs k (omega arith) here)

pub contains_flat : {X Y : Type 0} (f : X → List Y) (xs : List X) (x : X) (y : Y) → Contains xs x → Contains (f x) y → Contains (flat_map f xs) y
contains_flat {X} {Y} f xs x y has there = go xs has.0 has.1 has.2
  where
    go : (xs : List X) (k : ℕ) → k < length xs → get_or xs k x ≡ x → Contains (flat_map f xs) y
    go [] k within here = absurd (omega arith)
    go (z ∷ xs) zero within here =
        Contains-append_left (f z) (flat_map f xs) y (subst (λ w. Contains (f w) y) (sym here) there)
    go (z ∷ xs) (suc k) within here = Contains-append_right (f z) (flat_map f xs) y (go xs k (omega arith) here)

-- places of joined lists
pub place_right : {X : Type 0} (xs ys : List X) (place : ℕ) → slice_get (xs ++ ys) (length xs + place) ≡ slice_get ys place
place_right [] ys place = let e : 0 + place ≡ place = omega arith in ap (slice_get ys) e
place_right (x ∷ xs) ys place =
    let e : length (x ∷ xs) + place ≡ suc (length xs + place) = omega arith in
    ap (slice_get (x ∷ (xs ++ ys))) e ∙ place_right xs ys place
