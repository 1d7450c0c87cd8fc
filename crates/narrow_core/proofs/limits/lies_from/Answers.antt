use Rattle.std.proofs.Common.{w32, to_z, of_z, arith}
use Rattle.std.proofs.lemmas.Int.{ints}
use Rattle.domain_core.specs.Domain.{least}
use Rattle.narrow_core.proofs.Bounds.{all_from}
use Rattle.narrow_core.proofs.Outcomes.{at_most_test}
use Rattle.narrow_core.proofs.limits.lies_from.Goals as goal

pub returns : goal.returns
returns c =
    let domain = c.args.domain.now in
    let both = all_from domain c.args.least c.lo.ensures.domain in
    let test = at_most_test (to_z w32 (of_z w32 c.args.least)) (to_z w32 (of_z w32 c.lo.result)) c.args.least (least domain) (omega (arith, ints)) (omega (arith, ints, c.lo.ensures.least)) in
    (λ yes. both.0 (test.0 yes), λ all. test.1 (both.1 all))
