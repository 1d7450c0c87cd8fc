use Rattle.std.proofs.Common.{w32, to_z, of_z, arith}
use Rattle.std.proofs.lemmas.Int.{ints}
use Rattle.domain_core.specs.Domain.{greatest}
use Rattle.narrow_core.proofs.Bounds.{all_between}
use Rattle.narrow_core.proofs.Outcomes.{at_most_test}
use Rattle.narrow_core.proofs.limits.lies_between.Goals as goal

pub returns-then-lo : goal.returns-then-lo
returns-then-lo c =
    let domain = c.args.domain.now in
    let both = all_between domain c.args.lo c.args.hi c.lo.ensures.domain in
    let test = at_most_test (to_z w32 (of_z w32 c.hi.result)) (to_z w32 (of_z w32 c.args.hi)) (greatest domain) c.args.hi (omega (arith, ints, c.hi.ensures.greatest)) (omega (arith, ints)) in
    (λ yes. both.0 (omega (arith, ints, c.lo.ensures.least, c.if-lo.true), test.0 yes), λ all. test.1 (both.1 all).1)
