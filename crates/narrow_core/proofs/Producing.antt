-- Which values are products of the numbers between the ends of a domain.
use Rattle.std.proofs.Common.{◌≡◌, ℤ, pos, ◌*ℤ◌, ◌≤ℤ◌, ◌<ℤ◌, refl, ◌∙◌, subst, w32, to_z, of_z, arith}
use Rattle.std.specs.Prelude.{◌↔◌}
use Rattle.std.proofs.lemmas.Int.{ints}
use Rattle.domain_core.specs.Domain.{Domain, Range, Set, IsValue, IsDomain, IsRange, Has, IsBetweenEnds, least, greatest}
use Rattle.domain_core.specs.Narrowing.{Keeps}
use Rattle.domain_core.specs.declared.Change.{Change}
use Rattle.domain_core.specs.declared.Change.TheVariants.{Empty}
use Rattle.domain_core.proofs.Words.{between_ends, has_value}
use Rattle.narrow_core.specs.Products.{LiesBetween, AreMultiplied}
use Rattle.narrow_core.proofs.Bounds.{keeps_around}
use Rattle.narrow_core.proofs.Times.{times_up, times_down}

cast_value : (value : ℤ) → IsValue value → to_z w32 (of_z w32 value) ≡ value
cast_value value is = omega (arith, ints, is.0, is.1)

-- a product that is a value, as the code computes it
pub cast_product : (c d a b : ℤ) → c ≡ a → d ≡ b → IsValue (a *ℤ b) → to_z w32 (of_z w32 (c *ℤ d)) ≡ (a *ℤ b)
cast_product c d a b c_is d_is value = (λ i. to_z w32 (of_z w32 (c_is i *ℤ d_is i))) ∙ cast_value (a *ℤ b) value

-- what lies between two numbers is kept, as the code names them
pub between_along : (low high lo hi : ℤ) (old new : Domain) (change : Change) → low ≡ lo → high ≡ hi → Keeps (LiesBetween low high) old change new → Keeps (LiesBetween lo hi) old change new
between_along low high lo hi old new change low_is high_is keeps =
    subst (λ l. Keeps (LiesBetween l hi) old change new) low_is (subst (λ h. Keeps (LiesBetween low h) old change new) high_is keeps)

-- the value is the product of a number between the ends of x
abbrev pub IsProductOf : ℤ → Domain → ℤ → Type 0
IsProductOf factor x value = (w : ℤ) × IsBetweenEnds x w × ((w *ℤ factor) ≡ value)

pub multiplied_along : (factor : ℤ) (x : Domain) (low high l h first last : ℤ) → low ≡ l → high ≡ h → AreMultiplied factor x low high first last → AreMultiplied factor x l h first last
multiplied_along factor x low high l h first last low_is high_is law =
    subst (λ k. AreMultiplied factor x k h first last) low_is (subst (λ k. AreMultiplied factor x low k first last) high_is law)

has_between : (domain : Domain) (value : ℤ) → IsRange domain → IsBetweenEnds domain value → Has domain value
has_between (Range lo hi) value range between = between
has_between (Set members) value range between = absurd range

module _ (factor : ℤ) (x old : Domain) (first last : ℤ) (range : IsRange old) (ok : IsDomain old) (law : AreMultiplied factor x (least old) (greatest old) first last) where
  -- a value of the domain that is a product is one of a number between the two
  inside : (value : ℤ) (has : Has old value) (some : IsProductOf factor x value) → (first ≤ℤ some.0) × (some.0 ≤ℤ last)
  inside value has some =
      let between = between_ends old value ok has in
      (law some.0).1 (some.1, omega (arith, ints, between.0, some.2), omega (arith, ints, between.1, some.2))

  pub no_products : last <ℤ first → Keeps (IsProductOf factor x) old Empty old
  no_products less = (refl, λ value has some. let within = inside value has some in omega (arith, ints, less, within.0, within.1))

  -- the products of the two are values of the domain
  end_products : (end : ℤ) → first ≤ℤ end → end ≤ℤ last → Has old (end *ℤ factor) × IsProductOf factor x (end *ℤ factor)
  end_products end from upto = let within = (law end).0 (from, upto) in (has_between old (end *ℤ factor) range (within.1, within.2), (end, within.0, refl))

  pub end_value : (end : ℤ) → first ≤ℤ end → end ≤ℤ last → IsValue (end *ℤ factor)
  end_value end from upto = has_value old (end *ℤ factor) ok (end_products end from upto).0

  module _ (new : Domain) (change : Change) (a b : ℤ) (nok : IsDomain new) (ordered : first ≤ℤ last) (keeps : Keeps (λ value. (a ≤ℤ value) × (value ≤ℤ b)) old change new) where
    pub products_up : pos 0 <ℤ factor → a ≡ (first *ℤ factor) → b ≡ (last *ℤ factor) → Keeps (IsProductOf factor x) old change new
    products_up up a_is b_is =
        let low = end_products first (omega (arith, ints)) ordered in
        let high = end_products last ordered (omega (arith, ints)) in
        keeps_around (IsProductOf factor x) old new change (first *ℤ factor) (last *ℤ factor) a b range nok a_is b_is low.0 low.1 high.0 high.1
        (λ value has some.
        let within = inside value has some in
        let above = times_up first some.0 factor up within.0 in
        let below = times_up some.0 last factor up within.1 in
        (omega (arith, ints, above, some.2), omega (arith, ints, below, some.2))) keeps

    pub products_down : factor ≤ℤ pos 0 → a ≡ (last *ℤ factor) → b ≡ (first *ℤ factor) → Keeps (IsProductOf factor x) old change new
    products_down down a_is b_is =
        let low = end_products last ordered (omega (arith, ints)) in
        let high = end_products first (omega (arith, ints)) ordered in
        keeps_around (IsProductOf factor x) old new change (last *ℤ factor) (first *ℤ factor) a b range nok a_is b_is low.0 low.1 high.0 high.1
        (λ value has some.
        let within = inside value has some in
        let above = times_down some.0 last factor down within.1 in
        let below = times_down first some.0 factor down within.0 in
        (omega (arith, ints, above, some.2), omega (arith, ints, below, some.2))) keeps

-- ---- a single value

pub is_product : (factor : ℤ) (x : Domain) (value first last : ℤ) → AreMultiplied factor x value value first last → (first ≤ℤ last) ↔ IsProductOf factor x value
is_product factor x value first last law = (
  λ le. let within = (law first).0 (omega (arith, ints), le) in (first, within.0, omega (arith, ints, within.1, within.2)),
  λ some. let within = (law some.0).1 (some.1, omega (arith, ints, some.2), omega (arith, ints, some.2)) in omega (arith, ints, within.0, within.1),
)

-- ---- what the first argument keeps

pub multipliers : (factor : ℤ) (z : Domain) (first last value : ℤ) → IsDomain z
    → ((first ≤ℤ value) × (value ≤ℤ last)) ↔ ((least z ≤ℤ (value *ℤ factor)) × ((value *ℤ factor) ≤ℤ greatest z))
    → ((first ≤ℤ value) × (value ≤ℤ last)) ↔ ((w : ℤ) × IsBetweenEnds z w × ((value *ℤ factor) ≡ w))
multipliers factor z first last value ok law = (
  λ within. (value *ℤ factor, law.0 within, refl),
  λ some. law.1 (omega (arith, ints, some.1.0, some.2), omega (arith, ints, some.1.1, some.2)),
)
