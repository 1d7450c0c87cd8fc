use Rattle.std.proofs.Common.{◌≡◌, w32, to_z, of_z, arith}
use Rattle.std.proofs.lemmas.Int.{ints, to_z-of_z}
use Rattle.narrow_core.proofs.Producing.{between_along, cast_product}
use Rattle.narrow_core.proofs.product.MulEq.meet_products.Goals as goal

pub returns-clause-kept : goal.returns-clause-kept
returns-clause-kept c =
    let factor = c.args.self.now.factor in
    let factor_is : to_z w32 (of_z w32 factor) ≡ factor = omega (arith, ints) in
    let low = cast_product _ _ c.args.low factor (to_z-of_z w32 c.args.low c.ranges.low) factor_is c.requires.low in
    let high = cast_product _ _ c.args.high factor (to_z-of_z w32 c.args.high c.ranges.high) factor_is c.requires.high in
    between_along _ _ _ _ c.args.products.now c.meet_range.new.self c.meet_range.result low high c.meet_range.ensures.kept
