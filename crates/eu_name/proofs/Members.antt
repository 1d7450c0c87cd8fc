-- Members of a list by their places.
use Rattle.std.proofs.Common.{◌≡◌, ℕ, suc, zero, ◌<◌, List, [], ◌∷◌, length, Some, refl, sym, ◌∙◌, subst, arith}
use Rattle.std.specs.Prelude.{Contains, All, slice_get}
use Rattle.std.proofs.lemmas.Option.{slice_get_read, get_or_from_slice_get}

-- a member stands at some place
pub get_from_contains : {X : Type 0} (xs : List X) (x : X) → Contains xs x → (k : ℕ) × (slice_get xs k ≡ Some x)
get_from_contains xs x c = (c.0, slice_get_read xs (length xs) c.0 x refl c.1 (sym c.2))

-- what stands at a place lies within the list
pub get_below : {X : Type 0} (xs : List X) (k : ℕ) (x : X) → slice_get xs k ≡ Some x → k < length xs
get_below [] k x e = absurd (cc)
get_below (y ∷ ys) zero x e = omega arith
get_below (y ∷ ys) (suc k) x e = omega (arith, get_below ys k x e)

-- and is a member
pub contains_from_get : {X : Type 0} (xs : List X) (k : ℕ) (x : X) → slice_get xs k ≡ Some x → Contains xs x
contains_from_get xs k x e = (k, get_below xs k x e, get_or_from_slice_get xs k x x e)

-- something stands at each place within the list
pub get_within : {X : Type 0} (xs : List X) (k : ℕ) → k < length xs → (x : X) × (slice_get xs k ≡ Some x)
get_within [] k h = absurd (omega arith)
get_within (y ∷ ys) zero h = (y, refl)
get_within (y ∷ ys) (suc k) h = get_within ys k (omega arith)

-- what holds of all holds of what stands at a place
pub get_all : {X : Type 0} (P : X → Type 0) (xs : List X) (k : ℕ) (x : X) → All P xs → slice_get xs k ≡ Some x → P x
get_all P xs k x all e = subst P (get_or_from_slice_get xs k x x e) (all k x (get_below xs k x e))

-- one place has one item
pub get_same : {X : Type 0} (xs : List X) (k : ℕ) (x y : X) → slice_get xs k ≡ Some x → slice_get xs k ≡ Some y → x ≡ y
get_same xs k x y p q = let e : Some x ≡ Some y = sym p ∙ q in cc
