-- What is so of the items of a list up to a place.
use Rattle.std.proofs.Common.{◌≡◌, ℕ, zero, suc, ◌+◌, ◌<◌, ◌≤◌, List, [], ◌∷◌, ◌++◌, length, get_or, take, drop, slice_get, Some, All, inl, inr, refl, sym, ap, ◌∙◌, subst, arith, append-nil}
use Rattle.std.specs.List.{flat_map}
use Rattle.std.proofs.lemmas.Bool.{cases_lt}
use Rattle.std.proofs.lemmas.List.{take_all}
use Rattle.std.proofs.lemmas.List.Elements.{All-get_or, All-more, All-append}
use Rattle.eu_name.proofs.Members.{get_same, get_below}
use Rattle.model_rules.proofs.Adding.{cut_at, take_more, flat-append}

reads : {X : Type 0} (xs : List X) (k : ℕ) (x : X) → k < length xs → x ≡ get_or xs k x → slice_get xs k ≡ Some x
reads [] k x below is = absurd (omega (arith, below))
reads (y ∷ xs) zero x below is = ap (λ z. Some z) (sym is)
reads (y ∷ xs) (suc k) x below is = reads xs k x (omega (arith, below)) is

module _ {X : Type 0} (P : X → Type 0) (xs : List X) (i : ℕ) where
  pub all_more : (x : X) → i < length xs → x ≡ get_or xs i x → P x → All P (take i xs) → All P (take (i + 1) xs)
  all_more x below is holds before = All-more P xs i x below before (subst P is holds)

  pub all_not : (x : X) → i < length xs → x ≡ get_or xs i x → (P x → ⊥) → All P xs → ⊥
  all_not x below is not all = not (subst P (sym is) (All-get_or P xs i x below all))

  pub all_whole : length xs ≤ i → All P (take i xs) → All P xs
  all_whole past all = subst (All P) (take_all i xs past) all

-- it is so of the items with lower numbers
abbrev pub AreSoBelow : {X : Type 0} → (ℕ → X → Type 0) → List X → ℕ → Type 0
AreSoBelow {X} P xs count = (number : ℕ) (x : X) → number < count → slice_get xs number ≡ Some x → P number x

module _ {X : Type 0} (P : ℕ → X → Type 0) (xs : List X) (i : ℕ) where
  pub below_more_items : (x : X) → i < length xs → x ≡ get_or xs i x → P i x → AreSoBelow P xs i → AreSoBelow P xs (i + 1)
  below_more_items x below is holds before number y small at = elim (cases_lt number i) [
    | inl less ↦ before number y less at
    | inr past ↦ (
        let same : i ≡ number = omega arith in
        let here : slice_get xs number ≡ Some x = subst (λ (n : ℕ). slice_get xs n ≡ Some x) same (reads xs i x below is) in
        subst (λ (n : ℕ). P n y) same (subst (P i) (get_same xs number x y here at) holds))
  ]

  pub below_whole : length xs ≤ i → AreSoBelow P xs i → (number : ℕ) (x : X) → slice_get xs number ≡ Some x → P number x
  below_whole past before number x at = before number x (let below = get_below xs number x at in omega (arith, below, past)) at

  pub below_not : (x : X) → i < length xs → x ≡ get_or xs i x → (P i x → ⊥) → ((number : ℕ) (y : X) → slice_get xs number ≡ Some y → P number y) → ⊥
  below_not x below is not all = not (all i x (reads xs i x below is))

-- ---- lists that the items give

module _ {X K : Type 0} (P : K → Type 0) (f : X → List K) (xs : List X) (i : ℕ) where
  pub flat_more : (x : X) → i < length xs → x ≡ get_or xs i x → All P (f x) → All P (flat_map f (take i xs)) → All P (flat_map f (take (i + 1) xs))
  flat_more x below is holds before =
      subst (All P) (sym (ap (flat_map f) (take_more xs i x below is) ∙ (flat-append f (take i xs) (x ∷ []) ∙ ap (λ l. flat_map f (take i xs) ++ l) (append-nil (f x)))))
      (All-append P (flat_map f (take i xs)) (f x) before holds)

  pub flat_not : (x : X) → i < length xs → x ≡ get_or xs i x → (All P (f x) → ⊥) → All P (flat_map f xs) → ⊥
  flat_not x below is not all =
      let whole = ap (flat_map f) (cut_at xs i x below is) ∙ flat-append f (take i xs) (x ∷ drop (suc i) xs) in
      not (all_front (f x) (flat_map f (drop (suc i) xs)) (all_back (flat_map f (take i xs)) (f x ++ flat_map f (drop (suc i) xs)) (subst (All P) whole all)))
    where
      left : (zs ys : List K) (k : ℕ) (d : K) → k < length zs → get_or (zs ++ ys) k d ≡ get_or zs k d
      left [] ys k d below = absurd (omega (arith, below))
      left (z ∷ zs) ys zero d below = refl
      left (z ∷ zs) ys (suc k) d below = left zs ys k d (omega (arith, below))

      longer : (zs ys : List K) (k : ℕ) → k < length zs → k < length (zs ++ ys)
      longer [] ys k below = absurd (omega (arith, below))
      longer (z ∷ zs) ys zero below = omega arith
      longer (z ∷ zs) ys (suc k) below = (let rest = longer zs ys k (omega (arith, below)) in omega (arith, rest))

      all_front : (zs ys : List K) → All P (zs ++ ys) → All P zs
      all_front zs ys every = λ k d below. subst P (left zs ys k d below) (every k d (longer zs ys k below))

      all_back : (zs ys : List K) → All P (zs ++ ys) → All P ys
      all_back [] ys every = every
      all_back (z ∷ zs) ys every = all_back zs ys (λ k d below. every (suc k) d (omega (arith, below)))

  pub flat_whole : length xs ≤ i → All P (flat_map f (take i xs)) → All P (flat_map f xs)
  flat_whole past all = subst (λ l. All P (flat_map f l)) (take_all i xs past) all
