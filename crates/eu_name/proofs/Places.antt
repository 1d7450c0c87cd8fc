-- Lists by their places: two beside each other, one of which an item is written, and one to which others are added.
use Rattle.std.proofs.Common.{◌≡◌, ℕ, ◌+◌, suc, zero, List, [], ◌∷◌, ◌++◌, length, Some, ◌⊎◌, inl, inr, refl, ap, ◌∙◌, subst, arith}
use Rattle.std.specs.Prelude.{Contains, AllPairs, option_map, map, slice_get, slice_set, ◌<◌}
use Rattle.std.specs.List.{AllZip}
use Rattle.std.proofs.lemmas.List.Elements.{Contains-append_cases}
use Rattle.std.proofs.lemmas.Option.{slice_get-map}
use Rattle.eu_name.proofs.Members.{get_from_contains, contains_from_get}
use Rattle.eu_name.proofs.Ordered.{contains_head, contains_later, contains_cases, contains_none, ordered_head, ordered_tail, ordered_none, ordered_cons}
use Rattle.std.proofs.lemmas.Bool.{cases_lt}

-- ---- two lists

pub zip_at : {X Y : Type 0} (R : X → Y → Type 0) (xs : List X) (ys : List Y) (k : ℕ) (x : X) (y : Y) → AllZip R xs ys
    → slice_get xs k ≡ Some x → slice_get ys k ≡ Some y → R x y
zip_at R [] ys k x y zip p q = absurd (cc)
zip_at R (one ∷ xs) [] k x y zip p q = absurd zip
zip_at R (one ∷ xs) (other ∷ ys) zero x y zip p q =
    let e : one ≡ x = cc in
    let f : other ≡ y = cc in
    subst (λ z. R z y) e (subst (R one) f zip.0)
zip_at R (one ∷ xs) (other ∷ ys) (suc k) x y zip p q = zip_at R xs ys k x y zip.1 p q

pub zip_within : {X Y : Type 0} (R : X → Y → Type 0) (xs : List X) (ys : List Y) (k : ℕ) (x : X) → AllZip R xs ys
    → slice_get xs k ≡ Some x → (y : Y) × (slice_get ys k ≡ Some y)
zip_within R [] ys k x zip p = absurd (cc)
zip_within R (one ∷ xs) [] k x zip p = absurd zip
zip_within R (one ∷ xs) (other ∷ ys) zero x zip p = (other, refl)
zip_within R (one ∷ xs) (other ∷ ys) (suc k) x zip p = zip_within R xs ys k x zip.1 p

zip_itself : {X : Type 0} (R : X → X → Type 0) → ((x : X) → R x x) → (xs : List X) → AllZip R xs xs
zip_itself R reflexive [] = tt
zip_itself R reflexive (x ∷ xs) = (reflexive x, zip_itself R reflexive xs)

-- ---- an item written

-- the list stands so to the old one, where the new item does to that in its place
pub zip_set : {X : Type 0} (R : X → X → Type 0) → ((x : X) → R x x) → (xs : List X) (k : ℕ) (old new : X)
    → slice_get xs k ≡ Some old → R new old → AllZip R (slice_set xs k new) xs
zip_set R reflexive [] k old new at there = tt
zip_set R reflexive (x ∷ xs) zero old new at there =
    let same : old ≡ x = cc in (subst (R new) same there, zip_itself R reflexive xs)
zip_set R reflexive (x ∷ xs) (suc k) old new at there = (reflexive x, zip_set R reflexive xs k old new at there)

-- what stands in the list is the new item in its place, or stood there before
pub set_cases : {X : Type 0} (xs : List X) (k : ℕ) (new : X) (n : ℕ) (x : X) → slice_get (slice_set xs k new) n ≡ Some x
    → ((n ≡ k) × (x ≡ new)) ⊎ (slice_get xs n ≡ Some x)
set_cases [] k new n x at = inr at
set_cases (y ∷ ys) zero new zero x at = inl (refl, cc)
set_cases (y ∷ ys) zero new (suc n) x at = inr at
set_cases (y ∷ ys) (suc k) new zero x at = inr at
set_cases (y ∷ ys) (suc k) new (suc n) x at = elim (set_cases ys k new n x at) [
  | inl same ↦ inl (ap suc same.0, same.1)
  | inr stood ↦ inr stood
]

pub set_there : {X : Type 0} (xs : List X) (k : ℕ) (old new : X) → slice_get xs k ≡ Some old → slice_get (slice_set xs k new) k ≡ Some new
set_there [] k old new at = absurd (cc)
set_there (x ∷ xs) zero old new at = refl
set_there (x ∷ xs) (suc k) old new at = set_there xs k old new at

-- ---- items added behind

pub get_front : {X : Type 0} (xs ys : List X) (k : ℕ) (x : X) → slice_get xs k ≡ Some x → slice_get (xs ++ ys) k ≡ Some x
get_front [] ys k x at = absurd (cc)
get_front (y ∷ xs) ys zero x at = at
get_front (y ∷ xs) ys (suc k) x at = get_front xs ys k x at

-- what stands in both lists stands in the first, or in the second so much further on
pub get_cases : {X : Type 0} (xs ys : List X) (k : ℕ) (x : X) → slice_get (xs ++ ys) k ≡ Some x
    → (slice_get xs k ≡ Some x) ⊎ ((n : ℕ) × (k ≡ length xs + n) × (slice_get ys n ≡ Some x))
get_cases [] ys k x at = inr (k, omega arith, at)
get_cases (y ∷ xs) ys zero x at = inl at
get_cases (y ∷ xs) ys (suc k) x at = elim (get_cases xs ys k x at) [
  | inl front ↦ inl front
  | inr (n, e, behind) ↦ inr (n, omega (arith, e), behind)
]

-- where each of the one list and each of the other is apart from those behind it, and from those of the other list
pub pairs_joined : {X : Type 0} (R : X → X → Type 0) (xs ys : List X) → AllPairs R xs → AllPairs R ys
    → ((x y : X) → Contains xs x → Contains ys y → R x y) → AllPairs R (xs ++ ys)
pairs_joined R [] ys p q apart = q
pairs_joined R (x ∷ xs) ys p q apart =
    ordered_cons R x (xs ++ ys) (λ y there. elim (Contains-append_cases xs ys y there) [
      | inl front ↦ ordered_head R x xs p y front
      | inr behind ↦ apart x y (contains_head x xs) behind
    ]) (pairs_joined R xs ys (ordered_tail R x xs p) q (λ one other front behind. apart one other (contains_later x one xs front) behind))

-- the last item of a list that has one
pub split_last : {X : Type 0} (xs : List X) (n : ℕ) → length xs ≡ suc n → (front : List X) × ((x : X) × (xs ≡ front ++ x ∷ []) × (length front ≡ n))
split_last [] n e = absurd (omega (arith, e))
split_last (x ∷ []) n e = ([], (x, refl, omega (arith, e)))
split_last (x ∷ y ∷ xs) zero e = absurd (omega (arith, e))
split_last (x ∷ y ∷ xs) (suc n) e =
    let rest = split_last (y ∷ xs) n (omega (arith, e)) in
    (x ∷ rest.0, (rest.1.0, ap (λ list. x ∷ list) rest.1.1, omega (arith, rest.1.2)))

pub no_split : {X : Type 0} (before : List X) (one : X) (after : List X) → [] ≡ before ++ one ∷ after → ⊥
no_split [] one after e = absurd (cc)
no_split (first ∷ before) one after e = absurd (cc)

-- a list that goes on by one item, split before some item: before the last one, or within the list
pub last_cases : {X : Type 0} (xs before : List X) (x one : X) (after : List X) → (xs ++ x ∷ []) ≡ (before ++ one ∷ after)
    → ((xs ≡ before) × (x ≡ one)) ⊎ ((inner : List X) × (xs ≡ before ++ one ∷ inner))
last_cases [] [] x one after e = inl (refl, cc)
last_cases [] (first ∷ before) x one after e = absurd (no_split before one after (let f : [] ≡ before ++ one ∷ after = cc in f))
last_cases (first ∷ xs) [] x one after e = inr (xs, (let f : first ≡ one = cc in λ i. f i ∷ xs))
last_cases (first ∷ xs) (other ∷ before) x one after e =
    let heads : first ≡ other = cc in
    let tails : (xs ++ x ∷ []) ≡ (before ++ one ∷ after) = cc in
    elim (last_cases xs before x one after tails) [
      | inl last ↦ inl ((λ i. heads i ∷ last.0 i), last.1)
      | inr inner ↦ inr (inner.0, (λ i. heads i ∷ inner.1 i))
    ]

-- ---- what a function makes of the items

pub contains_map : {X Y : Type 0} (f : X → Y) (xs : List X) (x : X) → Contains xs x → Contains (map f xs) (f x)
contains_map f xs x there =
    let at = get_from_contains xs x there in
    contains_from_get (map f xs) at.0 (f x) (slice_get-map f xs at.0 ∙ ap (option_map f) at.1)

pub contains_unmap : {X Y : Type 0} (f : X → Y) (xs : List X) (y : Y) → Contains (map f xs) y → (x : X) × Contains xs x × (f x ≡ y)
contains_unmap f [] y there = absurd (contains_none y there)
contains_unmap f (x ∷ xs) y there = elim (contains_cases (f x) y (map f xs) there) [
  | inl same ↦ (x, contains_head x xs, same)
  | inr later ↦ (let rest = contains_unmap f xs y later in (rest.0, contains_later x rest.0 xs rest.1, rest.2))
]

pub pairs_map : {X Y : Type 0} (f : X → Y) (R : Y → Y → Type 0) (xs : List X) → AllPairs (λ x y. R (f x) (f y)) xs → AllPairs R (map f xs)
pairs_map f R [] p = ordered_none R
pairs_map f R (x ∷ xs) p =
    ordered_cons R (f x) (map f xs) (λ y there.
    let from = contains_unmap f xs y there in
    subst (R (f x)) from.2 (ordered_head (λ x y. R (f x) (f y)) x xs p from.0 from.1)) (pairs_map f R xs (ordered_tail (λ x y. R (f x) (f y)) x xs p))

pub up_to : (P : ℕ → Type 0) (k : ℕ) → ((n : ℕ) → n < k → P n) → P k → (n : ℕ) → n < k + 1 → P n
up_to P k before here n below = elim (cases_lt n k) [
  | inl less ↦ before n less
  | inr not_less ↦ (let same : k ≡ n = omega (arith, not_less, below) in subst P same here)
]
