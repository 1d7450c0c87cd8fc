-- Lists that are made of others, item by item.
use Rattle.std.proofs.Common.{◌≡◌, List, [], ◌∷◌, refl}
use Rattle.std.specs.Prelude.{Option, Some, None, All}
use Rattle.std.specs.List.{filter_map, flat_map, cons_option}
use Rattle.std.proofs.lemmas.List.Elements.{All-nil, All-cons, All-head, All-tail, All-append}
use Rattle.nddl_laws.proofs.Nothing.{none_first, none_second}

-- what holds of all that is made of each item holds of all
pub all_flat : {X Y : Type 0} (P : Y → Type 0) (f : X → List Y) (xs : List X) → All (λ x. All P (f x)) xs → All P (flat_map f xs)
all_flat P f [] all = All-nil P
all_flat P f (x ∷ xs) all =
    All-append P (f x) (flat_map f xs) (All-head (λ x. All P (f x)) x xs all) (all_flat P f xs (All-tail (λ x. All P (f x)) x xs all))

-- and what holds of each that is kept
pub all_kept : {X Y : Type 0} (P : Y → Type 0) (f : X → Option Y) (xs : List X) → All (λ x. (y : Y) → f x ≡ Some y → P y) xs
    → All P (filter_map f xs)
all_kept P f [] all = All-nil P
all_kept {X} {Y} P f (x ∷ xs) all =
    by (f x) (All-head (λ x. (y : Y) → f x ≡ Some y → P y) x xs all)
    (all_kept P f xs (All-tail (λ x. (y : Y) → f x ≡ Some y → P y) x xs all))
  where
    by : (o : Option Y) → ((y : Y) → o ≡ Some y → P y) → All P (filter_map f xs) → All P (cons_option o (filter_map f xs))
    by None here rest = rest
    by (Some y) here rest = All-cons P y (filter_map f xs) (here y refl) rest

-- where nothing is made of all, nothing is made of each
pub none_flat : {X Y : Type 0} (f : X → List Y) (xs : List X) → flat_map f xs ≡ [] → All (λ x. f x ≡ []) xs
none_flat f [] none = All-nil (λ x. f x ≡ [])
none_flat f (x ∷ xs) none =
    All-cons (λ x. f x ≡ []) x xs (none_first (f x) (flat_map f xs) none) (none_flat f xs (none_second (f x) (flat_map f xs) none))
