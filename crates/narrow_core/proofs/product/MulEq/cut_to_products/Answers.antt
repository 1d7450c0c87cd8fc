use Rattle.std.proofs.Common.{◌≡◌, ◌*ℤ◌, ◌≤ℤ◌, w32, to_z, of_z, ap, arith}
use Rattle.std.proofs.lemmas.Int.{ints}
use Rattle.narrow_core.proofs.Producing.{end_value, no_products, products_up, products_down}
use Rattle.narrow_core.proofs.product.MulEq.cut_to_products.Goals as goal

pub returns-then-last-first-clause-kept : goal.returns-then-last-first-clause-kept
returns-then-last-first-clause-kept c =
    let ends = c.multiplied_within-first in
    no_products c.args.self.now.factor c.args.x.now c.args.products.now ends.result.0 ends.result.1 c.requires ends.ensures.domain ends.ensures.law (omega (arith, ints))

pub meet_products-requires-clause-low : goal.meet_products-requires-clause-low
meet_products-requires-clause-low c =
    let ends = c.multiplied_within-first in
    end_value c.args.self.now.factor c.args.x.now c.args.products.now ends.result.0 ends.result.1 c.requires ends.ensures.domain ends.ensures.law _ (omega (arith, ints)) (omega (arith, ints))

pub meet_products-requires-clause-high : goal.meet_products-requires-clause-high
meet_products-requires-clause-high c =
    let ends = c.multiplied_within-first in
    end_value c.args.self.now.factor c.args.x.now c.args.products.now ends.result.0 ends.result.1 c.requires ends.ensures.domain ends.ensures.law _ (omega (arith, ints)) (omega (arith, ints))

pub meet_products-requires-else-self-gt0-clause-low : goal.meet_products-requires-else-self-gt0-clause-low
meet_products-requires-else-self-gt0-clause-low c =
    let ends = c.multiplied_within-first in
    end_value c.args.self.now.factor c.args.x.now c.args.products.now ends.result.0 ends.result.1 c.requires ends.ensures.domain ends.ensures.law _ (omega (arith, ints)) (omega (arith, ints))

pub meet_products-requires-else-self-gt0-clause-high : goal.meet_products-requires-else-self-gt0-clause-high
meet_products-requires-else-self-gt0-clause-high c =
    let ends = c.multiplied_within-first in
    end_value c.args.self.now.factor c.args.x.now c.args.products.now ends.result.0 ends.result.1 c.requires ends.ensures.domain ends.ensures.law _ (omega (arith, ints)) (omega (arith, ints))

pub returns-then-self-gt0-clause-kept : goal.returns-then-self-gt0-clause-kept
returns-then-self-gt0-clause-kept c =
    let ends = c.multiplied_within-first in
    let factor = c.args.self.now.factor in
    let first : to_z w32 (of_z w32 ends.result.0) ≡ ends.result.0 = omega (arith, ints) in
    let last : to_z w32 (of_z w32 ends.result.1) ≡ ends.result.1 = omega (arith, ints) in
    let ordered : ends.result.0 ≤ℤ ends.result.1 = omega (arith, ints) in
    products_up factor c.args.x.now c.args.products.now ends.result.0 ends.result.1 c.requires ends.ensures.domain ends.ensures.law
    c.meet_products.new.products c.meet_products.result _ _ c.meet_products.ensures.domain ordered c.meet_products.ensures.kept (omega (arith, ints))
    (ap (λ end. end *ℤ factor) first) (ap (λ end. end *ℤ factor) last)

pub returns-else-self-gt0-clause-kept : goal.returns-else-self-gt0-clause-kept
returns-else-self-gt0-clause-kept c =
    let ends = c.multiplied_within-first in
    let met = c.meet_products-else-self-gt0 in
    let factor = c.args.self.now.factor in
    let first : to_z w32 (of_z w32 ends.result.0) ≡ ends.result.0 = omega (arith, ints) in
    let last : to_z w32 (of_z w32 ends.result.1) ≡ ends.result.1 = omega (arith, ints) in
    let ordered : ends.result.0 ≤ℤ ends.result.1 = omega (arith, ints) in
    products_down factor c.args.x.now c.args.products.now ends.result.0 ends.result.1 c.requires ends.ensures.domain ends.ensures.law
    met.new.products met.result _ _ met.ensures.domain ordered met.ensures.kept (omega (arith, ints))
    (ap (λ end. end *ℤ factor) last) (ap (λ end. end *ℤ factor) first)
