use Rattle.std.proofs.Common.{w32, to_z, of_z, arith}
use Rattle.std.proofs.lemmas.Int.{ints}
use Rattle.domain_core.specs.Domain.{greatest}
use Rattle.narrow_core.proofs.Bounds.{all_up_to}
use Rattle.narrow_core.proofs.Outcomes.{at_most_test}
use Rattle.narrow_core.proofs.limits.lies_up_to.Goals as goal

pub returns : goal.returns
returns c =
    let domain = c.args.domain.now in
    let both = all_up_to domain c.args.most c.hi.ensures.domain in
    let test = at_most_test (to_z w32 (of_z w32 c.hi.result)) (to_z w32 (of_z w32 c.args.most)) (greatest domain) c.args.most (omega (arith, ints, c.hi.ensures.greatest)) (omega (arith, ints)) in
    (λ yes. both.0 (test.0 yes), λ all. test.1 (both.1 all))
