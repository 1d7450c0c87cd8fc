use Rattle.std.proofs.Common.{arith}
use Rattle.std.proofs.lemmas.Int.{ints}
use Rattle.domain_core.proofs.Words.{least_is_value, greatest_is_value}
use Rattle.narrow_core.proofs.Bounds.{differences}
use Rattle.narrow_core.proofs.Supports.{tests_along}
use Rattle.narrow_core.proofs.sum.are_differences.Goals as goal

pub returns : goal.returns
returns c =
    let added = c.args.added.now in
    let sum = c.args.sum.now in
    let a = least_is_value added c.hi.ensures.domain in
    let b = greatest_is_value added c.hi.ensures.domain in
    let d = least_is_value sum c.lo.ensures.domain in
    let e = greatest_is_value sum c.lo.ensures.domain in
    tests_along _ _ c.args.own.now _
    (λ value. differences added sum _ _ value c.hi.ensures.domain c.lo.ensures.domain
    (omega (arith, ints, c.lo.ensures.least, c.hi.ensures.greatest, b.0, b.1, d.0, d.1))
    (omega (arith, ints, c.hi-2.ensures.greatest, c.lo-2.ensures.least, a.0, a.1, e.0, e.1)))
    c.lies_between.ensures
