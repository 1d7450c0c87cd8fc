use Rattle.std.proofs.Common.{◌≡◌, w32, to_z, of_z, refl, sym, ◌∙◌, subst, arith}
use Rattle.std.specs.Int.{int_div_euclid}
use Rattle.std.proofs.lemmas.Int.{ints, to_z-of_z}
use Rattle.domain_core.specs.Domain.{IsValue}
use Rattle.narrow_core.proofs.Times.{at_most_quotient, quotient_along, quotient_value}
use Rattle.narrow_core.proofs.product.quotient.Goals as goal

pub returns-clause-greatest : goal.returns-clause-greatest
returns-clause-greatest c =
    let number_is = to_z-of_z w32 c.args.number c.ranges.number in
    let factor_is = to_z-of_z w32 c.args.factor c.ranges.factor in
    let is : int_div_euclid c.args.number c.args.factor ≡ to_z w32 (of_z w32 c.div_euclid.result) = (λ i. int_div_euclid (sym number_is i) (sym factor_is i)) ∙ sym c.div_euclid.ensures ∙ omega (arith, ints) in
    λ y. quotient_along c.args.number c.args.factor c.args.number c.args.factor (int_div_euclid c.args.number c.args.factor) (to_z w32 (of_z w32 c.div_euclid.result)) refl refl is (λ x. at_most_quotient c.args.number c.args.factor x c.requires.positive) y

pub returns-clause-value : goal.returns-clause-value
returns-clause-value c =
    let number_is = to_z-of_z w32 c.args.number c.ranges.number in
    let factor_is = to_z-of_z w32 c.args.factor c.ranges.factor in
    let is : int_div_euclid c.args.number c.args.factor ≡ to_z w32 (of_z w32 c.div_euclid.result) = (λ i. int_div_euclid (sym number_is i) (sym factor_is i)) ∙ sym c.div_euclid.ensures ∙ omega (arith, ints) in
    subst IsValue is (quotient_value c.args.number c.args.factor c.requires.positive c.requires.value)
