use Rattle.std.proofs.Common.{arith}
use Rattle.domain_core.proofs.Words.{has_tested, place_of}
use Rattle.narrow_core.proofs.passing.all_tested.Goals as goal

pub returns : goal.returns
returns g c = λ value tested.
    let domain = c.args.domain.now in
    let counted = c.count-place-end.ensures in
    let place = place_of domain value counted.domain (has_tested domain value counted.domain tested) in
    c.loop-place.invariant place.0 value (omega (arith, place.1, counted.count, c.loop-place-test.false)) place.2
