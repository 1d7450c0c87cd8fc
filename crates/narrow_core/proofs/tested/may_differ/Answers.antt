use Rattle.std.proofs.Common.{w32, to_z, of_z, ◌≤ℤ◌, arith}
use Rattle.std.proofs.lemmas.Int.{ints}
use Rattle.domain_core.specs.Domain.{least, greatest}
use Rattle.narrow_core.proofs.Outcomes.{less_test, differ_down}
use Rattle.narrow_core.proofs.tested.may_differ.Goals as goal

pub returns-else-lo-hi : goal.returns-else-lo-hi
returns-else-lo-hi c =
    let x = c.args.x.now in
    let y = c.args.y.now in
    let le : greatest y ≤ℤ least x = omega (arith, ints, c.lo.ensures.least, c.hi.ensures.greatest) in
    let both = differ_down x y c.lo.ensures.domain c.hi.ensures.domain le in
    let test = less_test (to_z w32 (of_z w32 c.lo-else-lo-hi.result)) (to_z w32 (of_z w32 c.hi-else-lo-hi.result)) (least y) (greatest x)
    (omega (arith, ints, c.lo-else-lo-hi.ensures.least)) (omega (arith, ints, c.hi-else-lo-hi.ensures.greatest)) in
    (λ passed. both.0 (test.0 passed), λ some. test.1 (both.1 some))
