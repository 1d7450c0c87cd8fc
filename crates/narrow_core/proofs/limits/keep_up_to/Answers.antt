use Rattle.std.proofs.Common.{arith}
use Rattle.std.proofs.lemmas.Int.{ints}
use Rattle.narrow_core.proofs.Bounds.{keeps_up_to}
use Rattle.narrow_core.proofs.limits.keep_up_to.Goals as goal

pub returns-clause-kept : goal.returns-clause-kept
returns-clause-kept c =
    keeps_up_to c.args.domain.now c.meet_range.new.self c.meet_range.result _ _ c.args.most c.lo-least.ensures.domain c.meet_range.ensures.domain
    (omega (arith, ints, c.lo-least.ensures.least)) (omega (arith, ints)) c.meet_range.ensures.kept
