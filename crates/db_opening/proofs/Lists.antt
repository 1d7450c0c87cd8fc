-- Lists that a function makes, or to which others are added.
use Rattle.std.proofs.Common.{◌≡◌, ℕ, zero, suc, List, [], ◌∷◌, ◌++◌, length, map, Some, ◌⊎◌, inl, inr, refl, arith}
use Rattle.std.specs.Prelude.{◌≢◌, AllPairs, Contains, slice_get}
use Rattle.std.proofs.lemmas.List.Elements.{Contains-push}
use Rattle.eu_name.proofs.Ordered.{contains_cases, contains_none, ordered_head, ordered_tail, ordered_none, ordered_cons}
use Rattle.eu_name.proofs.Places.{contains_map, get_cases}

pub pairs_unmap : {X Y : Type 0} (f : X → Y) (R : Y → Y → Type 0) (xs : List X) → AllPairs R (map f xs) → AllPairs (λ x y. R (f x) (f y)) xs
pairs_unmap f R [] p = ordered_none (λ x y. R (f x) (f y))
pairs_unmap f R (x ∷ xs) p =
    ordered_cons (λ x y. R (f x) (f y)) x xs (λ y there. ordered_head R (f x) (map f xs) p (f y) (contains_map f xs y there))
    (pairs_unmap f R xs (ordered_tail R (f x) (map f xs) p))

pub pairs_behind : {X : Type 0} (R : X → X → Type 0) (xs ys : List X) → AllPairs R (xs ++ ys) → AllPairs R ys
pairs_behind R [] ys p = p
pairs_behind R (x ∷ xs) ys p = pairs_behind R xs ys (ordered_tail R x (xs ++ ys) p)

pub apart_before : {X : Type 0} (xs : List X) (y : X) → AllPairs (λ one other. one ≢ other) (xs ++ y ∷ []) → Contains xs y → ⊥
apart_before [] y p there = contains_none y there
apart_before (x ∷ xs) y p there = elim (contains_cases x y xs there) [
  | inl same ↦ ordered_head (λ one other. one ≢ other) x (xs ++ y ∷ []) p y (Contains-push xs y) same
  | inr later ↦ apart_before xs y (ordered_tail (λ one other. one ≢ other) x (xs ++ y ∷ []) p) later
]

-- ---- one item more

pub get_last : {X : Type 0} (xs : List X) (y : X) → slice_get (xs ++ y ∷ []) (length xs) ≡ Some y
get_last [] y = refl
get_last (x ∷ xs) y = get_last xs y

last_only : {X : Type 0} (y x : X) (n : ℕ) → slice_get (y ∷ []) n ≡ Some x → (n ≡ 0) × (x ≡ y)
last_only y x zero at = (refl, cc)
last_only y x (suc n) at = absurd (cc)

-- what stands in the list stood there before, or is the one that has come
pub push_cases : {X : Type 0} (xs : List X) (y : X) (k : ℕ) (x : X) → slice_get (xs ++ y ∷ []) k ≡ Some x
    → (slice_get xs k ≡ Some x) ⊎ ((k ≡ length xs) × (x ≡ y))
push_cases xs y k x at = elim (get_cases xs (y ∷ []) k x at) [
  | inl before ↦ inl before
  | inr (n, e, behind) ↦ (let only = last_only y x n behind in inr (omega (arith, e, only.0), only.1))
]
