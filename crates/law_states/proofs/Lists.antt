-- Lists of just what is meant.
use Rattle.std.proofs.Common.{◌≡◌, ℕ, zero, suc, ◌<◌, ◌⊎◌, inl, inr, ⊎_elim, List, [], ◌∷◌, ◌++◌, sym, subst, arith}
use Rattle.std.specs.Prelude.{Contains, ◌↔◌}
use Rattle.std.proofs.lemmas.List.Elements.{Contains-append_left, Contains-append_right, Contains-append_cases}
use Rattle.eu_name.proofs.Ordered.{contains_head, contains_later, contains_cases, contains_none}
use Rattle.law_states.proofs.Listing.{numbers_below, number_below}

-- a list of all that is so
pub record Lists {X : Type 0} (P : X → Type 0) : Type 0 where
  pub list : List X
  pub are : (x : X) → Contains list x ↔ P x

-- nothing is so
pub no_list : {X : Type 0} (P : X → Type 0) → ((x : X) → P x → ⊥) → Lists P
no_list P none = record { list = []; are = λ x. (λ there. absurd (contains_none x there), λ is. absurd (none x is)) }

-- this one alone
pub one_list : {X : Type 0} (only : X) → Lists (λ x. only ≡ x)
one_list {X} only = record {
  list = only ∷ [];
  are = λ x. (
    λ there. ⊎_elim (λ same. same) (λ later. absurd (contains_none x later)) (contains_cases only x [] there),
    λ same. subst (λ (y : X). Contains (only ∷ []) y) same (contains_head only []),
  );
}

-- what is so in one way or in another
pub either_list : {X : Type 0} (P Q : X → Type 0) → Lists P → Lists Q → Lists (λ x. P x ⊎ Q x)
either_list P Q one other = record {
  list = one.list ++ other.list;
  are = λ x. (
    λ there. ⊎_elim (λ here. inl ((one.are x).0 here)) (λ there'. inr ((other.are x).0 there')) (Contains-append_cases one.list other.list x there),
    λ is. ⊎_elim (λ p. Contains-append_left one.list other.list x ((one.are x).1 p)) (λ q. Contains-append_right one.list other.list x ((other.are x).1 q)) is,
  );
}

-- what is so of some item
pub each_list : {X Y : Type 0} (P : X → Y → Type 0) (xs : List X) → ((x : X) → Contains xs x → Lists (P x)) → Lists (λ (y : Y). (x : X) × (Contains xs x × P x y))
each_list P [] of = record { list = []; are = λ y. (λ there. absurd (contains_none y there), λ found. absurd (contains_none found.0 found.1.0)) }
each_list {X} {Y} P (first ∷ xs) of =
    let head = of first (contains_head first xs) in
    let rest = each_list P xs (λ x there. of x (contains_later first x xs there)) in
    record {
      list = head.list ++ rest.list;
      are = λ y. (
        λ there. elim (Contains-append_cases head.list rest.list y there) [
          | inl here ↦ (first, (contains_head first xs, (head.are y).0 here))
          | inr later ↦ let found = (rest.are y).0 later in (found.0, (contains_later first found.0 xs found.1.0, found.1.1))
        ],
        λ found. elim (contains_cases first found.0 xs found.1.0) [
          | inl same ↦ Contains-append_left head.list rest.list y ((head.are y).1 (subst (λ (x : X). P x y) (sym same) found.1.1))
          | inr later ↦ Contains-append_right head.list rest.list y ((rest.are y).1 (found.0, (later, found.1.1)))
        ],
      );
    }

-- the same said otherwise
pub same_list : {X : Type 0} (P Q : X → Type 0) → ((x : X) → P x ↔ Q x) → Lists P → Lists Q
same_list P Q same one = record {
  list = one.list;
  are = λ x. (λ there. (same x).0 ((one.are x).0 there), λ is. (one.are x).1 ((same x).1 is));
}

-- the numbers below one
pub below_list : (n : ℕ) → Lists (λ k. k < n)
below_list n = record { list = numbers_below n; are = λ k. (λ there. is_below n k there, λ less. number_below n k less) }
  where
    is_below : (n k : ℕ) → Contains (numbers_below n) k → k < n
    is_below zero k there = absurd (contains_none k there)
    is_below (suc n) k there = elim (Contains-append_cases (numbers_below n) (n ∷ []) k there) [
      | inl before ↦ let less = is_below n k before in omega (arith, less)
      | inr last ↦ elim (contains_cases n k [] last) [
        | inl same ↦ omega (arith, same)
        | inr none ↦ absurd (contains_none k none)
      ]
    ]
