-- Amounts, one for each item of a list, where the items change their order.
use Rattle.std.proofs.Common.{◌≡◌, ℕ, zero, suc, ◌<◌, ⊎_elim, ℤ, pos, ◌+ℤ◌, List, [], ◌∷◌, length, get_or, set, refl, ap, ◌∙◌, subst, arith}
use Rattle.std.specs.Prelude.{IsPermutation, map}
use Rattle.std.specs.List.{AllZip, swap}
use Rattle.std.proofs.lemmas.Bool.{cases_eq}
use Rattle.std.proofs.lemmas.Int.{ints}
use Rattle.std.proofs.lemmas.List.{get_or-set_same, get_or-set_other, length-set}
use Rattle.std.proofs.lemmas.List.Sorted.{IsPermutation-keeps}
use Rattle.std.proofs.lemmas.Slice.Zip.{AllZip-long}
use Rattle.std.proofs.lemmas.List.Edits.{swap_is}
use Rattle.eu_name.proofs.Members.{get_within}
use Rattle.plan_defs.specs.Sums.{sum_of}

-- each item has an amount, and these make this sum
pub record Summed {X : Type 0} (Has : X → ℤ → Type 0) (xs : List X) (total : ℤ) : Type 0 where
  pub amounts : List ℤ
  pub are : AllZip Has xs amounts
  pub sum : sum_of amounts ≡ total

module _ {X : Type 0} (Has : X → ℤ → Type 0) where
  pub summed_map : (f : X → X) → ((x : X) (amount : ℤ) → Has x amount → Has (f x) amount) → (xs : List X) (amounts : List ℤ) → AllZip Has xs amounts
      → Summed Has (map f xs) (sum_of amounts)
  summed_map f keeps xs amounts are = record { amounts = amounts; are = mapped xs amounts are; sum = refl }
    where
      mapped : (xs : List X) (amounts : List ℤ) → AllZip Has xs amounts → AllZip Has (map f xs) amounts
      mapped [] [] are = are
      mapped [] (amount ∷ amounts) are = absurd are
      mapped (x ∷ xs) [] are = absurd are
      mapped (x ∷ xs) (amount ∷ amounts) are = (keeps x amount are.0, mapped xs amounts are.1)

  zip_at : (xs : List X) (amounts : List ℤ) (i : ℕ) (d : X) (e : ℤ) → AllZip Has xs amounts → i < length xs → Has (get_or xs i d) (get_or amounts i e)
  zip_at [] amounts i d e are within = absurd (omega (arith, within))
  zip_at (x ∷ xs) [] i d e are within = absurd are
  zip_at (x ∷ xs) (amount ∷ amounts) zero d e are within = are.0
  zip_at (x ∷ xs) (amount ∷ amounts) (suc i) d e are within = zip_at xs amounts i d e are.1 (omega (arith, within))

  zip_set : (xs : List X) (amounts : List ℤ) (i : ℕ) (y : X) (amount : ℤ) → AllZip Has xs amounts → Has y amount → AllZip Has (set xs i y) (set amounts i amount)
  zip_set [] [] i y amount are has = are
  zip_set [] (a ∷ amounts) i y amount are has = absurd are
  zip_set (x ∷ xs) [] i y amount are has = absurd are
  zip_set (x ∷ xs) (a ∷ amounts) zero y amount are has = (has, are.1)
  zip_set (x ∷ xs) (a ∷ amounts) (suc i) y amount are has = (are.0, zip_set xs amounts i y amount are.1 has)

sum_set : (amounts : List ℤ) (i : ℕ) (amount e : ℤ) → i < length amounts → sum_of (set amounts i amount) +ℤ get_or amounts i e ≡ sum_of amounts +ℤ amount
sum_set [] i amount e within = absurd (omega (arith, within))
sum_set (a ∷ amounts) zero amount e within = omega (arith, ints)
sum_set (a ∷ amounts) (suc i) amount e within = let rest = sum_set amounts i amount e (omega (arith, within)) in omega (arith, ints, rest)

both_same : (last mid was total there first second : ℤ) → mid +ℤ first ≡ was +ℤ second → last +ℤ there ≡ mid +ℤ first → there ≡ second → was ≡ total → last ≡ total
both_same last mid was total there first second one two same sum = omega (arith, ints, one, two, same, sum)

module _ {X : Type 0} (Has : X → ℤ → Type 0) (total : ℤ) where
  exchanged : (xs : List X) (i j : ℕ) → i < length xs → j < length xs → Summed Has xs total → Summed Has (swap xs i j) total
  exchanged xs i j p q summed =
      let d : X = (get_within xs i p).0 in
      let amounts = summed.amounts in
      let e : ℤ = pos 0 in
      let long : length amounts ≡ length xs = AllZip-long Has xs amounts summed.are in
      let below : i < length amounts = omega (arith, long, p) in
      let beyond : j < length amounts = omega (arith, long, q) in
      let first = set amounts i (get_or amounts j e) in
      let step = length-set amounts i (get_or amounts j e) in
      let there : get_or first j e ≡ get_or amounts j e =
      ⊎_elim (λ same. ap (λ n. get_or first n e) same ∙ get_or-set_same amounts i (get_or amounts j e) e below)
      (λ differ. get_or-set_other amounts i j (get_or amounts j e) e differ) (cases_eq j i) in
      let one = sum_set amounts i (get_or amounts j e) e below in
      let two = sum_set first j (get_or amounts i e) e (omega (arith, step, beyond)) in
      record {
        amounts = set first j (get_or amounts i e);
        are = subst (λ (l : List X). AllZip Has l (set first j (get_or amounts i e))) (swap_is xs i j d p q)
            (zip_set Has (set xs i (get_or xs j d)) first j (get_or xs i d) (get_or amounts i e)
            (zip_set Has xs amounts i (get_or xs j d) (get_or amounts j e) summed.are (zip_at Has xs amounts j d e summed.are q))
            (zip_at Has xs amounts i d e summed.are p));
        sum = both_same (sum_of (set first j (get_or amounts i e))) (sum_of first) (sum_of amounts) total (get_or first j e) (get_or amounts i e) (get_or amounts j e) one two there summed.sum;
      }

pub summed_shuffled : {X : Type 0} (Has : X → ℤ → Type 0) (xs ys : List X) (total : ℤ) → IsPermutation xs ys → Summed Has xs total → Summed Has ys total
summed_shuffled Has xs ys total shuffled summed = IsPermutation-keeps xs (λ l. Summed Has l total) summed (exchanged Has total) ys shuffled
