use Rattle.std.proofs.Common.{pos, w32, to_z, of_z, ◌≤ℤ◌, refl, arith}
use Rattle.std.proofs.lemmas.Int.{ints}
use Rattle.domain_core.specs.Domain.{least, greatest}
use Rattle.narrow_core.proofs.Outcomes.{less_test, beside_up}
use Rattle.narrow_core.proofs.tested.has_beside_one.Goals as goal

pub returns-else-lo-lt1-clause-beside : goal.returns-else-lo-lt1-clause-beside
returns-else-lo-lt1-clause-beside c =
    let domain = c.args.domain.now in
    let from : pos 1 ≤ℤ least domain = omega (arith, ints, c.lo.ensures.least) in
    let both = beside_up domain c.lo.ensures.domain from in
    let test = less_test (pos 1) (to_z w32 (of_z w32 c.hi.result)) (pos 1) (greatest domain) refl (omega (arith, ints, c.hi.ensures.greatest)) in
    (λ passed. both.0 (test.0 passed), λ some. test.1 (both.1 some))
