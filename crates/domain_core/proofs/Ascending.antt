-- Ascending lists of numbers: what they contain, and how many.
use Rattle.std.proofs.Common.{◌≡◌, ℕ, suc, zero, ◌<◌, ◌≤◌, List, [], ◌∷◌, length, get_or, ℤ, ◌≤ℤ◌, ◌<ℤ◌, ◌⊎◌, ⊎_elim, inl, inr, refl, sym, ap, ◌∙◌, subst, arith}
use Rattle.std.specs.Prelude.{Contains}
use Rattle.std.proofs.lemmas.Bool.{cases_lt}
use Rattle.std.proofs.lemmas.Int.{ints}
use Rattle.std.proofs.lemmas.List.{get_or_default}
use Rattle.domain_core.specs.Domain.{AreAscending}

-- ---- membership, by the first item

pub contains_head : (x : ℤ) (xs : List ℤ) → Contains (x ∷ xs) x
contains_head x xs = (0, omega arith, refl)

pub contains_later : (y x : ℤ) (xs : List ℤ) → Contains xs x → Contains (y ∷ xs) x
contains_later y x xs c = (suc c.0, omega (arith, c.1), c.2)

pub contains_cases : (y x : ℤ) (xs : List ℤ) → Contains (y ∷ xs) x → (y ≡ x) ⊎ Contains xs x
contains_cases y x xs c = at c.0 c.1 c.2
  where
    at : (k : ℕ) → k < length (y ∷ xs) → get_or (y ∷ xs) k x ≡ x → (y ≡ x) ⊎ Contains xs x
    at zero within e = inl e
    at (suc k) within e = inr (k, omega arith, e)

pub contains_none : (x : ℤ) → Contains [] x → ⊥
contains_none x c = omega (arith, c.1)

-- ---- order

pub ascending_tail : (x : ℤ) (xs : List ℤ) → AreAscending (x ∷ xs) → AreAscending xs
ascending_tail x xs p = λ i j d before within. p (suc i) (suc j) d (omega arith) (omega arith)

pub ascending_head : (x : ℤ) (xs : List ℤ) → AreAscending (x ∷ xs) → (later : ℤ) → Contains xs later → x <ℤ later
ascending_head x xs p later c = subst (λ z. x <ℤ z) c.2 (p 0 (suc c.0) later (omega arith) (omega (arith, c.1)))

-- a later place has a number at least as great
pub ascending_le : (xs : List ℤ) → AreAscending xs → (i j : ℕ) (d : ℤ) → i ≤ j → j < length xs → get_or xs i d ≤ℤ get_or xs j d
ascending_le xs p i j d le within =
    ⊎_elim
    (λ before. let less = p i j d before within in omega (arith, ints, less))
    (λ same. let e : i ≡ j = omega arith in let same_item = ap (λ k. get_or xs k d) e in omega (arith, ints, same_item))
    (cases_lt i j)

-- where a member stands, for any default
pub stands_at : (xs : List ℤ) (x : ℤ) (c : Contains xs x) → (d : ℤ) → get_or xs c.0 d ≡ x
stands_at xs x c d = get_or_default xs c.0 d x c.1 ∙ c.2

-- ---- how many

-- what lies above the first number lies among the later ones
pub past_head : (y v : ℤ) (ys : List ℤ) → y <ℤ v → Contains (y ∷ ys) v → Contains ys v
past_head y v ys above c = ⊎_elim (λ same. absurd (omega (arith, ints, above, same))) (λ later. later) (contains_cases y v ys c)

-- no member lies below the first
pub first_le : (x v : ℤ) (xs : List ℤ) → AreAscending (x ∷ xs) → Contains (x ∷ xs) v → x ≤ℤ v
first_le x v xs p c = ⊎_elim (λ same. omega (arith, ints, same)) (λ later. let less = ascending_head x xs p v later in omega (arith, ints, less)) (contains_cases x v xs c)

-- where the second list begins with the same number, the rest of the first lies in the rest of the second
rest_within : (x y : ℤ) (xs ys : List ℤ) → AreAscending (x ∷ xs) → y ≡ x → ((v : ℤ) → Contains (x ∷ xs) v → Contains (y ∷ ys) v) → (v : ℤ) → Contains xs v → Contains ys v
rest_within x y xs ys p same within v c =
    let above = ascending_head x xs p v c in
    past_head y v ys (let less : y <ℤ v = omega (arith, ints, above, same) in less) (within v (contains_later x v xs c))

-- where the first number stands further on in the second list, the whole of the first lies there
whole_within : (x y : ℤ) (xs ys : List ℤ) → AreAscending (x ∷ xs) → AreAscending (y ∷ ys) → Contains ys x → ((v : ℤ) → Contains (x ∷ xs) v → Contains (y ∷ ys) v) → (v : ℤ) → Contains (x ∷ xs) v → Contains ys v
whole_within x y xs ys p q deeper within v c =
    let above = ascending_head y ys q x deeper in
    let from = first_le x v xs p c in
    past_head y v ys (let less : y <ℤ v = omega (arith, ints, above, from) in less) (within v c)

-- ascending numbers among others are no more than those
pub fewer : (xs ys : List ℤ) → AreAscending xs → AreAscending ys → ((v : ℤ) → Contains xs v → Contains ys v) → length xs ≤ length ys
fewer [] ys p q within = omega arith
fewer (x ∷ xs) [] p q within = absurd (contains_none x (within x (contains_head x xs)))
fewer (x ∷ xs) (y ∷ ys) p q within =
    ⊎_elim
    (λ same. let rest = fewer xs ys (ascending_tail x xs p) (ascending_tail y ys q) (rest_within x y xs ys p same within) in omega (arith, rest))
    (λ deeper. let rest = fewer (x ∷ xs) ys p (ascending_tail y ys q) (whole_within x y xs ys p q deeper within) in omega (arith, rest))
    (contains_cases y x ys (within x (contains_head x xs)))

-- and where they are as many, they are the same
pub all_of_them : (xs ys : List ℤ) → AreAscending xs → AreAscending ys → ((v : ℤ) → Contains xs v → Contains ys v) → length ys ≤ length xs → xs ≡ ys
all_of_them [] [] p q within many = refl
all_of_them [] (y ∷ ys) p q within many = absurd (omega arith)
all_of_them (x ∷ xs) [] p q within many = absurd (contains_none x (within x (contains_head x xs)))
all_of_them (x ∷ xs) (y ∷ ys) p q within many =
    ⊎_elim
    (λ same. let rest = all_of_them xs ys (ascending_tail x xs p) (ascending_tail y ys q) (rest_within x y xs ys p same within) (omega arith) in (λ i. sym same i ∷ rest i))
    (λ deeper. let less = fewer (x ∷ xs) ys p (ascending_tail y ys q) (whole_within x y xs ys p q deeper within) in absurd (omega (arith, less)))
    (contains_cases y x ys (within x (contains_head x xs)))

-- ascending lists with the same items are one
pub same_ascending : (xs ys : List ℤ) → AreAscending xs → AreAscending ys → ((v : ℤ) → Contains xs v → Contains ys v) → ((v : ℤ) → Contains ys v → Contains xs v) → xs ≡ ys
same_ascending xs ys p q into back = all_of_them xs ys p q into (fewer ys xs q p back)
