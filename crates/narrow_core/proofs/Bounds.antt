-- What supports a value where the ends of the others count alone, and the numbers that the code computes for it.
use Rattle.std.proofs.Common.{◌≡◌, ℤ, pos, ◌≤ℤ◌, ◌<ℤ◌, ◌+ℤ◌, ◌-ℤ◌, ◌⊎◌, inl, inr, subst, arith}
use Rattle.std.specs.Prelude.{◌↔◌}
use Rattle.std.proofs.lemmas.Int.{ints, by_lt_z}
use Rattle.domain_core.specs.Domain.{Domain, Range, Set, IsDomain, IsRange, Has, IsBetweenEnds, least, greatest}
use Rattle.domain_core.specs.Narrowing.{Keeps}
use Rattle.domain_core.specs.declared.Change.{Change}
use Rattle.domain_core.proofs.Around.{met_around}
use Rattle.domain_core.proofs.Words.{has_least, has_tested, tested_least, tested_greatest, between_ends}
use Rattle.narrow_core.specs.Sweeps.{AllTested}
use Rattle.narrow_core.proofs.Supports.{keeps_among}

-- the ends of a domain are in order
pub ends_ordered : (domain : Domain) → IsDomain domain → least domain ≤ℤ greatest domain
ends_ordered domain ok = (between_ends domain (least domain) ok (has_least domain ok)).1

-- ---- cut at one end

pub keeps_up_to : (old new : Domain) (change : Change) (lowest highest most : ℤ) → IsDomain old → IsDomain new → lowest ≡ least old → highest ≡ most
    → Keeps (λ value. (lowest ≤ℤ value) × (value ≤ℤ highest)) old change new → Keeps (λ value. value ≤ℤ most) old change new
keeps_up_to old new change lowest highest most ok nok low high keeps =
    keeps_among (λ value. (lowest ≤ℤ value) × (value ≤ℤ highest)) (λ value. value ≤ℤ most) old new change ok nok
    (λ value has. let between = between_ends old value ok has in (λ pass. omega (arith, ints, pass.1, high), λ pass. (omega (arith, ints, between.0, low), omega (arith, ints, pass, high)))) keeps

pub keeps_from : (old new : Domain) (change : Change) (lowest highest from : ℤ) → IsDomain old → IsDomain new → highest ≡ greatest old → lowest ≡ from
    → Keeps (λ value. (lowest ≤ℤ value) × (value ≤ℤ highest)) old change new → Keeps (λ value. from ≤ℤ value) old change new
keeps_from old new change lowest highest from ok nok high low keeps =
    keeps_among (λ value. (lowest ≤ℤ value) × (value ≤ℤ highest)) (λ value. from ≤ℤ value) old new change ok nok
    (λ value has. let between = between_ends old value ok has in (λ pass. omega (arith, ints, pass.0, low), λ pass. (omega (arith, ints, pass, low), omega (arith, ints, between.1, high)))) keeps

-- ---- within ends

pub all_between : (domain : Domain) (low high : ℤ) → IsDomain domain
    → ((low ≤ℤ least domain) × (greatest domain ≤ℤ high)) ↔ AllTested (λ value. (low ≤ℤ value) × (value ≤ℤ high)) domain
all_between domain low high ok = (
  λ ends value tested.
      let between = between_ends domain value ok (has_tested domain value ok tested) in
      (omega (arith, ints, ends.0, between.0), omega (arith, ints, ends.1, between.1)),
  λ all. ((all (least domain) (tested_least domain ok)).0, (all (greatest domain) (tested_greatest domain ok)).1),
)

pub all_up_to : (domain : Domain) (most : ℤ) → IsDomain domain → (greatest domain ≤ℤ most) ↔ AllTested (λ value. value ≤ℤ most) domain
all_up_to domain most ok = (
  λ le value tested. let between = between_ends domain value ok (has_tested domain value ok tested) in omega (arith, ints, le, between.1),
  λ all. all (greatest domain) (tested_greatest domain ok),
)

pub all_from : (domain : Domain) (from : ℤ) → IsDomain domain → (from ≤ℤ least domain) ↔ AllTested (λ value. from ≤ℤ value) domain
all_from domain from ok = (
  λ le value tested. let between = between_ends domain value ok (has_tested domain value ok tested) in omega (arith, ints, le, between.0),
  λ all. all (least domain) (tested_least domain ok),
)

-- ---- order

pub below_some : (y : Domain) (most value : ℤ) → IsDomain y → most ≡ greatest y → (value ≤ℤ most) ↔ ((w : ℤ) × IsBetweenEnds y w × (value ≤ℤ w))
below_some y most value ok at = (
  λ le. (greatest y, (ends_ordered y ok, omega (arith, ints)), omega (arith, ints, le, at)),
  λ some. omega (arith, ints, some.1.1, some.2, at),
)

pub above_some : (x : Domain) (from value : ℤ) → IsDomain x → from ≡ least x → (from ≤ℤ value) ↔ ((w : ℤ) × IsBetweenEnds x w × (w ≤ℤ value))
above_some x from value ok at = (
  λ le. (least x, (omega (arith, ints), ends_ordered x ok), omega (arith, ints, le, at)),
  λ some. omega (arith, ints, some.1.0, some.2, at),
)

-- just below the greatest value there is a greater one, and just above the least a smaller one
pub less_than_some : (y : Domain) (most value : ℤ) → IsDomain y → (most +ℤ pos 1) ≡ greatest y → (value ≤ℤ most) ↔ ((w : ℤ) × IsBetweenEnds y w × (value <ℤ w))
less_than_some y most value ok at = (
  λ le. (greatest y, (ends_ordered y ok, omega (arith, ints)), omega (arith, ints, le, at)),
  λ some. omega (arith, ints, some.1.1, some.2, at),
)

pub more_than_some : (x : Domain) (from value : ℤ) → IsDomain x → from ≡ (least x +ℤ pos 1) → (from ≤ℤ value) ↔ ((w : ℤ) × IsBetweenEnds x w × (w <ℤ value))
more_than_some x from value ok at = (
  λ le. (least x, (omega (arith, ints), ends_ordered x ok), omega (arith, ints, le, at)),
  λ some. omega (arith, ints, some.1.0, some.2, at),
)

-- ---- sums

abbrev pub IsDifference : Domain → Domain → ℤ → Type 0
IsDifference added sum value = (w u : ℤ) × IsBetweenEnds added w × IsBetweenEnds sum u × ((value +ℤ w) ≡ u)

pub difference_back : (added sum : Domain) (value : ℤ) → IsDifference added sum value ↔ ((w u : ℤ) × IsBetweenEnds added w × IsBetweenEnds sum u × ((w +ℤ value) ≡ u))
difference_back added sum value = (
  λ some. (some.0, some.1, some.2, some.3, omega (arith, ints, some.4)),
  λ some. (some.0, some.1, some.2, some.3, omega (arith, ints, some.4)),
)

pub differences : (added sum : Domain) (low high value : ℤ) → IsDomain added → IsDomain sum → (low +ℤ greatest added) ≡ least sum → (high +ℤ least added) ≡ greatest sum
    → ((low ≤ℤ value) × (value ≤ℤ high)) ↔ ((w u : ℤ) × IsBetweenEnds added w × IsBetweenEnds sum u × ((value +ℤ w) ≡ u))
differences added sum low high value ok sum_ok low_is high_is = (
  λ within.
      by_lt_z (value +ℤ least added) (least sum)
      (λ short. (least sum -ℤ value, least sum, (omega (arith, ints, short), omega (arith, ints, within.0, low_is)), (omega (arith, ints), ends_ordered sum sum_ok), omega (arith, ints)))
      (λ enough. (least added, value +ℤ least added, (omega (arith, ints), ends_ordered added ok), (enough, omega (arith, ints, within.1, high_is)), omega (arith, ints))),
  λ some. (omega (arith, ints, some.2.1, some.3.0, some.4, low_is), omega (arith, ints, some.2.0, some.3.1, some.4, high_is)),
)

pub sums : (x y : Domain) (low high value : ℤ) → IsDomain x → IsDomain y → low ≡ (least x +ℤ least y) → high ≡ (greatest x +ℤ greatest y)
    → ((low ≤ℤ value) × (value ≤ℤ high)) ↔ ((w u : ℤ) × IsBetweenEnds x w × IsBetweenEnds y u × ((w +ℤ u) ≡ value))
sums x y low high value ok y_ok low_is high_is = (
  λ within.
      by_lt_z (greatest y) (value -ℤ least x)
      (λ short. (value -ℤ greatest y, greatest y, (omega (arith, ints, short), omega (arith, ints, within.1, high_is)), (ends_ordered y y_ok, omega (arith, ints)), omega (arith, ints)))
      (λ enough. (least x, value -ℤ least x, (omega (arith, ints), ends_ordered x ok), (omega (arith, ints, within.0, low_is), enough), omega (arith, ints))),
  λ some. (omega (arith, ints, some.2.0, some.3.0, some.4, low_is), omega (arith, ints, some.2.1, some.3.1, some.4, high_is)),
)

-- ---- a range whose ends move to the first and the last of its values that pass

pub keeps_around : (passes : ℤ → Type 0) (old new : Domain) (change : Change) (first last a b : ℤ) → IsRange old → IsDomain new → a ≡ first → b ≡ last
    → Has old first → passes first → Has old last → passes last → ((value : ℤ) → Has old value → passes value → (first ≤ℤ value) × (value ≤ℤ last))
    → Keeps (λ value. (a ≤ℤ value) × (value ≤ℤ b)) old change new → Keeps passes old change new
keeps_around passes (Set members) new change first last a b range nok a_is b_is has_first pass_first has_last pass_last outside keeps = absurd range
keeps_around passes (Range lo hi) new change first last a b range nok a_is b_is has_first pass_first has_last pass_last outside keeps =
    met_around passes lo hi first last change new has_first.0 has_last.1 (outside first has_first pass_first).1 pass_first pass_last outside nok
    (subst (λ l. Keeps (λ value. (l ≤ℤ value) × (value ≤ℤ last)) (Range lo hi) change new) a_is (subst (λ h. Keeps (λ value. (a ≤ℤ value) × (value ≤ℤ h)) (Range lo hi) change new) b_is keeps))

-- ---- the greater and the less of two numbers

pub from_greater : (greater a b value : ℤ) → (greater ≡ a) ⊎ (greater ≡ b) → a ≤ℤ value → b ≤ℤ value → greater ≤ℤ value
from_greater greater a b value (inl e) p q = omega (arith, ints, e, p)
from_greater greater a b value (inr e) p q = omega (arith, ints, e, q)

pub upto_less : (less a b value : ℤ) → (less ≡ a) ⊎ (less ≡ b) → value ≤ℤ a → value ≤ℤ b → value ≤ℤ less
upto_less less a b value (inl e) p q = omega (arith, ints, e, p)
upto_less less a b value (inr e) p q = omega (arith, ints, e, q)
