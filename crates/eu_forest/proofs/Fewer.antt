-- Distinct numbers below a bound are no more than the bound.
use Rattle.std.proofs.Common.{◌≡◌, ℕ, zero, suc, ◌+◌, ◌<◌, ◌≤◌, ◌==◌, Bool, true, false, cond, List, [], ◌∷◌, length, inl, inr, refl, sym, ◌∙◌, ap, subst, arith}
use Rattle.std.specs.Prelude.{not, ⊤}
use Rattle.std.specs.List.{AllByRecursion, filter}
use Rattle.std.proofs.lemmas.Bool.{cases_lt}
use Rattle.std.proofs.lemmas.Bool.Decides.{Decides-eqb}

-- each differs from all later ones
abbrev pub AreDistinct : List ℕ → Type 0
AreDistinct [] = ⊤
AreDistinct (x ∷ xs) = AllByRecursion (λ y. x ≡ y → ⊥) xs × AreDistinct xs

abbrev others : ℕ → List ℕ → List ℕ
others number xs = filter (λ x. not (x == number)) xs

pub differs : (one other : ℕ) → (one ≡ other → ⊥) → (one == other) ≡ false
differs one other never = by (one == other) refl
  where
    by : (b : Bool) → (one == other) ≡ b → b ≡ false
    by false is = refl
    by true is = absurd (never ((Decides-eqb one other).0 is))

all_others : (number : ℕ) (xs : List ℕ) → AllByRecursion (λ y. number ≡ y → ⊥) xs → others number xs ≡ xs
all_others number [] all = refl
all_others number (x ∷ xs) all =
    let test = differs x number (λ same. all.0 (sym same)) in
    ap (λ b. cond (not b) (x ∷ others number xs) (others number xs)) test ∙ ap (λ rest. x ∷ rest) (all_others number xs all.1)

-- at most one goes
one_less : (number : ℕ) (xs : List ℕ) → AreDistinct xs → length xs ≤ length (others number xs) + 1
one_less number [] distinct = omega arith
one_less number (x ∷ xs) distinct = by (x == number) refl (one_less number xs distinct.1)
  where
    by : (b : Bool) → (x == number) ≡ b → length xs ≤ length (others number xs) + 1
        → length (x ∷ xs) ≤ length (cond (not b) (x ∷ others number xs) (others number xs)) + 1
    by false is rest = omega arith
    by true is rest =
        let same : x ≡ number = (Decides-eqb x number).0 is in
        let P : ℕ → Type 0 = λ n. AllByRecursion (λ y. n ≡ y → ⊥) xs in
        let long = ap length (all_others number xs (subst P same distinct.0)) in
        omega arith

all_kept : (P : ℕ → Type 0) (number : ℕ) (xs : List ℕ) → AllByRecursion P xs → AllByRecursion P (others number xs)
all_kept P number [] all = tt
all_kept P number (x ∷ xs) all = by (x == number) (all_kept P number xs all.1)
  where
    by : (b : Bool) → AllByRecursion P (others number xs) → AllByRecursion P (cond (not b) (x ∷ others number xs) (others number xs))
    by false rest = (all.0, rest)
    by true rest = rest

distinct_kept : (number : ℕ) (xs : List ℕ) → AreDistinct xs → AreDistinct (others number xs)
distinct_kept number [] distinct = tt
distinct_kept number (x ∷ xs) distinct = by (x == number) (distinct_kept number xs distinct.1)
  where
    by : (b : Bool) → AreDistinct (others number xs) → AreDistinct (cond (not b) (x ∷ others number xs) (others number xs))
    by false rest = (all_kept (λ y. x ≡ y → ⊥) number xs distinct.0, rest)
    by true rest = rest

-- those that are left lie below
below_kept : (number : ℕ) (xs : List ℕ) → AllByRecursion (λ y. y < suc number) xs → AllByRecursion (λ y. y < number) (others number xs)
below_kept number [] all = tt
below_kept number (x ∷ xs) all = by (x == number) refl (below_kept number xs all.1)
  where
    by : (b : Bool) → (x == number) ≡ b → AllByRecursion (λ y. y < number) (others number xs)
        → AllByRecursion (λ y. y < number) (cond (not b) (x ∷ others number xs) (others number xs))
    by false is rest =
        let never : x ≡ number → ⊥ = λ same. (let e : true ≡ false = sym ((Decides-eqb x number).1 same) ∙ is in cc) in
        let less : x < suc number = all.0 in
        (below x never less, rest)
      where
        below : (x : ℕ) → (x ≡ number → ⊥) → x < suc number → x < number
        below x never less = elim (cases_lt x number) [
          | inl under ↦ under
          | inr over ↦ absurd (never (let e : x ≡ number = omega arith in e))
        ]
    by true is rest = rest

pub few_distinct : (bound : ℕ) (xs : List ℕ) → AreDistinct xs → AllByRecursion (λ y. y < bound) xs → length xs ≤ bound
few_distinct zero [] distinct all = omega arith
few_distinct zero (x ∷ xs) distinct all = absurd (let less : x < 0 = all.0 in omega arith)
few_distinct (suc bound) xs distinct all =
    let rest : length (others bound xs) ≤ bound = few_distinct bound (others bound xs) (distinct_kept bound xs distinct) (below_kept bound xs all) in
    let one : length xs ≤ length (others bound xs) + 1 = one_less bound xs distinct in
    omega arith
