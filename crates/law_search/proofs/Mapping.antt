-- Members of mapped lists.
use Rattle.std.proofs.Common.{◌≡◌, ℕ, ◌<◌, Some, inl, inr, List, [], ◌∷◌, ap, subst}
use Rattle.std.specs.Prelude.{Contains, map, AllPairs, slice_get, slice_index_or}
use Rattle.eu_name.proofs.Members.{get_below}
use Rattle.std.proofs.lemmas.Option.{get_or_from_slice_get}
use Rattle.eu_name.proofs.Ordered.{contains_head, contains_later, contains_cases, contains_none}

pub contains_map : {X Y : Type 0} (f : X → Y) (xs : List X) (x : X) → Contains xs x → Contains (map f xs) (f x)
contains_map f [] x there = absurd (contains_none x there)
contains_map f (y ∷ xs) x there = elim (contains_cases y x xs there) [
  | inl same ↦ subst (λ z. Contains (f y ∷ map f xs) z) (ap f same) (contains_head (f y) (map f xs))
  | inr later ↦ contains_later (f y) (f x) (map f xs) (contains_map f xs x later)
]

pub map_contains : {X Y : Type 0} (f : X → Y) (xs : List X) (y : Y) → Contains (map f xs) y → (x : X) × (Contains xs x × (f x ≡ y))
map_contains f [] y there = absurd (contains_none y there)
map_contains f (x ∷ xs) y there = elim (contains_cases (f x) y (map f xs) there) [
  | inl same ↦ (x, (contains_head x xs, same))
  | inr later ↦ let found = map_contains f xs y later in (found.0, (contains_later x found.0 xs found.1.0, found.1.1))
]

-- of two places of a list in order, what stands at the first comes before what stands at the second
pub get_pair : {X : Type 0} (before : X → X → Type 0) (xs : List X) (first second : ℕ) (x y : X) → AllPairs before xs → first < second
    → slice_get xs first ≡ Some x → slice_get xs second ≡ Some y → before x y
get_pair before xs first second x y order less one other =
    subst (λ z. before z y) (get_or_from_slice_get xs first x x one)
    (subst (λ z. before (slice_index_or xs first x) z) (get_or_from_slice_get xs second y x other) (order first second x less (get_below xs second y other)))
