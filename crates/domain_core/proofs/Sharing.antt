-- Whether two domains have a value in common.
use Rattle.std.proofs.Common.{◌≡◌, ℕ, ◌<◌, List, get_or, ℤ, pos, ◌≤ℤ◌, ⊎_elim, arith}
use Rattle.std.specs.Prelude.{IsTrue, ◌↔◌}
use lib.Signed.{le_z}
use Rattle.std.proofs.lemmas.Bool.{cases_lt}
use Rattle.std.proofs.lemmas.Int.{ints, by_lt_z}
use Rattle.std.proofs.lemmas.List.Elements.{Contains-get_or}
use Rattle.domain_core.specs.Domain.{Range, Set, HaveCommon}
use Rattle.domain_core.proofs.Parts.{Bounds}

-- two ranges, by their ends
pub ranges_common : (lo hi low high : ℤ) → lo ≤ℤ hi → low ≤ℤ high → lo ≤ℤ high → low ≤ℤ hi → HaveCommon (Range lo hi) (Range low high)
ranges_common lo hi low high p q r s =
    by_lt_z lo low
    (λ before. (low, (omega (arith, ints, before), s), (omega (arith, ints), q)))
    (λ from. (lo, (omega (arith, ints), p), (from, r)))

at_most : (a b : ℤ) → IsTrue (le_z a b) → a ≤ℤ b
at_most a b test = grind (arith, ints)

is_at_most : (a b : ℤ) → a ≤ℤ b → IsTrue (le_z a b)
is_at_most a b le = grind (arith, ints)

-- where one range doesn't end before the other begins, that the other doesn't either decides it
pub ranges_decided : (lo hi low high a b : ℤ) → lo ≤ℤ hi → low ≤ℤ high → lo ≤ℤ high → a ≡ low → b ≡ hi → IsTrue (le_z a b) ↔ HaveCommon (Range lo hi) (Range low high)
ranges_decided lo hi low high a b p q r a_is b_is = (
  λ test. let fact = at_most a b test in ranges_common lo hi low high p q r (omega (arith, ints, fact, a_is, b_is)),
  λ both. is_at_most a b (omega (arith, ints, a_is, b_is, both.1.1, both.2.0)),
)

-- a range and ascending numbers, by the places of those that lie between the range's ends
module _ (members : List ℤ) (lo hi : ℤ) (from end : ℕ) (bounds : Bounds members lo hi from end) where
  pub reached : from < end → HaveCommon (Range lo hi) (Set members)
  reached some =
      let value = get_or members from (pos 0) in
      let low = bounds.above_lo from (pos 0) (omega arith) (omega (arith, bounds.bound)) in
      let high = bounds.upto from (pos 0) (omega arith) some in
      (value, (low, high), Contains-get_or members from (pos 0) (omega (arith, bounds.bound)))

  pub reaching : HaveCommon (Range lo hi) (Set members) → from < end
  reaching both =
      let value = both.0 in
      let at = both.2 in
      ⊎_elim
      (λ before. let low = bounds.below at.0 value (omega arith) before in absurd (omega (arith, ints, low, at.2, both.1.0)))
      (λ after.
      ⊎_elim
      (λ inside. omega (arith, inside, after))
      (λ past. let high = bounds.above at.0 value past at.1 in absurd (omega (arith, ints, high, at.2, both.1.1)))
      (cases_lt at.0 end))
      (cases_lt at.0 from)
