-- Lists in which something is kept for each item of another list, by its number.
use Rattle.std.proofs.Common.{◌≡◌, ℕ, ◌+◌, ◌<◌, ◌≤◌, List, [], ◌∷◌, ◌++◌, length, get_or, Option, Some, sym, ◌∙◌, ap, subst, inl, inr, arith}
use Rattle.std.specs.Prelude.{slice_get}
use Rattle.std.specs.Option.{option_map_or}
use Rattle.std.proofs.lemmas.Bool.{cases_lt}
use Rattle.std.proofs.lemmas.List.{length_push}
use Rattle.std.proofs.lemmas.Option.{slice_get-get_or}
use Rattle.eu_name.proofs.Members.{get_below, get_same, get_within}
use Rattle.eu_forest.proofs.Lists.{get-append_last, get-append_left}

-- what a loop reads stands at its place
pub read_at : {X : Type 0} (items : List X) (place : ℕ) (item : X) → place < length items → item ≡ get_or items place item → slice_get items place ≡ Some item
read_at items place item below same = slice_get-get_or items place item below ∙ ap Some (sym same)

module _ {A B C : Type 0} (Fits : A → C → Type 0) (kept : B → C) (none : C) where
  -- what is kept at this number
  abbrev pub kept_at : List B → ℕ → C
  kept_at table number = option_map_or kept (slice_get table number) none

  -- so it is of the first items, as many as the table has
  abbrev pub AreKeptTo : List A → ℕ → List B → Type 0
  AreKeptTo items count table =
      (length table ≡ count) × ((number : ℕ) (item : A) → number < count → slice_get items number ≡ Some item → Fits item (kept_at table number))

  pub kept_none : (items : List A) → AreKeptTo items 0 []
  kept_none items = (omega arith, λ number item below is. absurd (omega arith))

  kept_is : (table : List B) (number : ℕ) (one : B) → slice_get table number ≡ Some one → kept_at table number ≡ kept one
  kept_is table number one is = ap (λ (found : Option B). option_map_or kept found none) is

  pub kept_more : (items : List A) (count : ℕ) (table : List B) (item : A) (one : B) → slice_get items count ≡ Some item → Fits item (kept one)
      → AreKeptTo items count table → AreKeptTo items (count + 1) (table ++ one ∷ [])
  kept_more items count table item one is fits (long, are) = (omega (arith, long, length_push table one), each)
    where
      each : (number : ℕ) (other : A) → number < count + 1 → slice_get items number ≡ Some other → Fits other (kept_at (table ++ one ∷ []) number)
      each number other below at = elim (cases_lt number count) [
        | inl less ↦
            let old = get_within table number (omega (arith, long, less)) in
            let new = get-append_left table (one ∷ []) number old.0 old.1 in
            subst (Fits other) (kept_is table number old.0 old.1 ∙ sym (kept_is (table ++ one ∷ []) number old.0 new)) (are number other less at)
        | inr past ↦
            let last : number ≡ length table = omega (arith, long) in
            let same : count ≡ number = omega (arith, long, last) in
            let there : slice_get items number ≡ Some item = subst (λ (n : ℕ). slice_get items n ≡ Some item) same is in
            let new : slice_get (table ++ one ∷ []) number ≡ Some one = subst (λ (n : ℕ). slice_get (table ++ one ∷ []) n ≡ Some one) (sym last) (get-append_last table one) in
            subst (λ (a : A). Fits a (kept_at (table ++ one ∷ []) number)) (get_same items number item other there at)
            (subst (Fits item) (sym (kept_is (table ++ one ∷ []) number one new)) fits)
      ]

  pub kept_all : (items : List A) (count : ℕ) (table : List B) → length items ≤ count → AreKeptTo items count table
      → (number : ℕ) (item : A) → slice_get items number ≡ Some item → Fits item (kept_at table number)
  kept_all items count table past (long, are) number item is = are number item (omega (arith, past, get_below items number item is)) is
