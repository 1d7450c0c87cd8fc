-- What is so of each item of a list.
use Rattle.std.proofs.Common.{◌≡◌, ℕ, ◌<◌, ◌≤◌, List, [], ◌∷◌, length, get_or, take, map, All, sym, subst}
use Rattle.std.proofs.lemmas.List.{take_all}
use Rattle.std.proofs.lemmas.List.Elements.{All-get_or, All-map, All-nil, All-cons, All-head, All-tail}

module _ {X Y : Type 0} (P : Y → Type 0) (f : X → Y) where
  -- what is so of what each is mapped to
  pub map_all : (xs : List X) → All P (map f xs) → All (λ x. P (f x)) xs
  map_all [] all = All-nil (λ x. P (f x))
  map_all (x ∷ xs) all = All-cons (λ y. P (f y)) x xs (All-head P (f x) (map f xs) all) (map_all xs (All-tail P (f x) (map f xs) all))

  pub not_at : (xs : List X) (k : ℕ) (x : X) → k < length xs → x ≡ get_or xs k x → (P (f x) → ⊥) → All P (map f xs) → ⊥
  not_at xs k x within is not all =
      not (subst (λ (y : X). P (f y)) (sym is) (All-get_or (λ y. P (f y)) xs k x within (map_all xs all)))

  pub all_taken : (xs : List X) (k : ℕ) → length xs ≤ k → All (λ x. P (f x)) (take k xs) → All P (map f xs)
  all_taken xs k past all = All-map P f xs (subst (All (λ x. P (f x))) (take_all k xs past) all)
