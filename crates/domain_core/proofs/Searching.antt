-- What bisection finds in ascending numbers.
use Rattle.std.proofs.Common.{◌≡◌, ℕ, ◌+◌, Bool, true, false, List, length, get_or, ℤ, ◌≤ℤ◌, ◌<ℤ◌, Result, Ok, Err, ⊎_elim, refl, sym, ap, ◌∙◌, subst, arith}
use Rattle.std.specs.Prelude.{Contains, IfOk, IsTrue, ◌↔◌, is_ok}
use Rattle.std.specs.declared.cmp.Ordering.TheVariants.{Less, Equal, Greater}
use Rattle.std.specs.List.{AllWithin, HoldsAt}
use Rattle.std.specs.List.Sorted.{IsSortedBy, IsBinarySearchResult, IsPartitionedBy, IsSearchInRange}
use Rattle.std.specs.Ordering.{int_cmp, is_lt}
use lib.Signed.{lt_z, le_z}
use Rattle.std.proofs.lemmas.Bool.{cases_lt}
use Rattle.std.proofs.lemmas.Cmp.{int_ranked, int_cmp_total}
use Rattle.std.proofs.lemmas.Int.{ints}
use Rattle.std.proofs.lemmas.List.Sorted.{searchable_from_sorted}
use Rattle.domain_core.specs.Domain.{AreAscending}
use Rattle.domain_core.proofs.Ascending.{ascending_le}

-- the numbers below a bound come first
pub below_comes_first : (xs : List ℤ) (bound : ℤ) → AreAscending xs → IsPartitionedBy (λ x. lt_z x bound) xs
below_comes_first xs bound p = λ i j d le within passes. let up = ascending_le xs p i j d le within in grind (arith, ints)

pub upto_comes_first : (xs : List ℤ) (bound : ℤ) → AreAscending xs → IsPartitionedBy (λ x. le_z x bound) xs
upto_comes_first xs bound p = λ i j d le within passes. let up = ascending_le xs p i j d le within in grind (arith, ints)

-- what the test says of each number on its side
pub below_from_test : (xs : List ℤ) (bound : ℤ) (low high : ℕ) → AllWithin (λ x. lt_z x bound ≡ true) xs low high → AllWithin (λ x. x <ℤ bound) xs low high
below_from_test xs bound low high all k d from to = let t = all k d from to in grind (arith, ints)

pub from_from_test : (xs : List ℤ) (bound : ℤ) (low high : ℕ) → AllWithin (λ x. lt_z x bound ≡ false) xs low high → AllWithin (λ x. bound ≤ℤ x) xs low high
from_from_test xs bound low high all k d from to = let t = all k d from to in grind (arith, ints)

pub upto_from_test : (xs : List ℤ) (bound : ℤ) (low high : ℕ) → AllWithin (λ x. le_z x bound ≡ true) xs low high → AllWithin (λ x. x ≤ℤ bound) xs low high
upto_from_test xs bound low high all k d from to = let t = all k d from to in grind (arith, ints)

pub above_from_test : (xs : List ℤ) (bound : ℤ) (low high : ℕ) → AllWithin (λ x. le_z x bound ≡ false) xs low high → AllWithin (λ x. bound <ℤ x) xs low high
above_from_test xs bound low high all k d from to = let t = all k d from to in grind (arith, ints)

-- ascending numbers are sorted, as `binary_search` asks
not_less : (a b : ℤ) → a <ℤ b → is_lt (int_cmp b a) ≡ false
not_less a b less = grind (arith, ints)

pub sorted_from_ascending : (xs : List ℤ) → AreAscending xs → IsSortedBy (λ a b. is_lt (int_cmp a b)) xs
sorted_from_ascending xs p = λ k d from within. not_less _ _ (p k (k + 1) d (omega arith) within)

-- what bisection finds is the number
pub found : (xs : List ℤ) (x : ℤ) (place : ℕ) → HoldsAt (λ y. int_cmp y x ≡ Equal) xs place → (d : ℤ) → get_or xs place d ≡ x
found xs x place at d = int_ranked (get_or xs place d) x Equal (sym (at d))

-- and where it finds none, the numbers before the place are less and those from there on greater
pub record IsBetween (xs : List ℤ) (x : ℤ) (place : ℕ) : Type 0 where
  pub below : AllWithin (λ y. y <ℤ x) xs 0 place
  pub above : AllWithin (λ y. x <ℤ y) xs place (length xs)

pub searched_between : (xs : List ℤ) (x : ℤ) (place : ℕ) → AreAscending xs → IsBinarySearchResult (λ y. int_cmp y x) xs (Err place) → IsBetween xs x place
searched_between xs x place ascending position =
    let point = position (searchable_from_sorted int_cmp_total (λ y. y) xs x (sorted_from_ascending xs ascending)) in
    record {
      below = λ k d from to. int_ranked (get_or xs k d) x Less (sym (point.0 k d from to));
      above = λ k d from to. int_ranked (get_or xs k d) x Greater (sym (point.1 k d from to));
    }

-- so it isn't there
pub between_absent : (xs : List ℤ) (x : ℤ) (place : ℕ) → IsBetween xs x place → Contains xs x → ⊥
between_absent xs x place between has =
    ⊎_elim
    (λ before. let less = between.below has.0 x (omega arith) before in omega (arith, ints, less, has.2))
    (λ after. let more = between.above has.0 x after has.1 in omega (arith, ints, more, has.2))
    (cases_lt has.0 place)

pub member_found : (xs : List ℤ) (x : ℤ) (r : Result ℕ ℕ) → AreAscending xs → IsSearchInRange r (length xs) → IfOk r (HoldsAt (λ y. int_cmp y x ≡ Equal) xs) → IsBinarySearchResult (λ y. int_cmp y x) xs r
    → IsTrue (is_ok r) ↔ Contains xs x
member_found xs x (Ok place) ascending bound ok position = (λ _. (place, bound, found xs x place ok x), λ _. refl)
member_found xs x (Err place) ascending bound ok position = (λ no. absurd (cc), λ has. absurd (between_absent xs x place (searched_between xs x place ascending position) has))

-- the same of a slice of the list and of a number that the code has cast
pub found_in : (xs slice : List ℤ) (value x : ℤ) (place : ℕ) → slice ≡ xs → x ≡ value → HoldsAt (λ y. int_cmp y x ≡ Equal) slice place → (d : ℤ) → get_or xs place d ≡ value
found_in xs slice value x place list is at d = ap (λ l. get_or l place d) (sym list) ∙ found slice x place at d ∙ is

pub absent_in : (xs slice : List ℤ) (value x : ℤ) (r : Result ℕ ℕ) (place : ℕ) → slice ≡ xs → x ≡ value → r ≡ Err place → AreAscending xs → IsBinarySearchResult (λ y. int_cmp y x) slice r → IsBetween xs value place
absent_in xs slice value x r place list is err ascending position =
    let there = searched_between slice x place (subst AreAscending (sym list) ascending) (subst (λ q. IsBinarySearchResult (λ y. int_cmp y x) slice q) err position) in
    subst (λ l. IsBetween l value place) list (subst (λ z. IsBetween slice z place) is there)

pub member_is : (xs : List ℤ) (value x : ℤ) (r : Result ℕ ℕ) (b : Bool) → x ≡ value → b ≡ is_ok r → AreAscending xs → IsSearchInRange r (length xs) → IfOk r (HoldsAt (λ y. int_cmp y x ≡ Equal) xs) → IsBinarySearchResult (λ y. int_cmp y x) xs r
    → IsTrue b ↔ Contains xs value
member_is xs value x r b is tells ascending bound ok position =
    subst (λ t. IsTrue t ↔ Contains xs value) (sym tells) (subst (λ z. IsTrue (is_ok r) ↔ Contains xs z) is (member_found xs x r ascending bound ok position))
