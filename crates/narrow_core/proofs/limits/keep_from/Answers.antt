use Rattle.std.proofs.Common.{arith}
use Rattle.std.proofs.lemmas.Int.{ints}
use Rattle.narrow_core.proofs.Bounds.{keeps_from}
use Rattle.narrow_core.proofs.limits.keep_from.Goals as goal

pub returns-clause-kept : goal.returns-clause-kept
returns-clause-kept c =
    keeps_from c.args.domain.now c.meet_range.new.self c.meet_range.result _ _ c.args.least c.hi-most.ensures.domain c.meet_range.ensures.domain
    (omega (arith, ints, c.hi-most.ensures.greatest)) (omega (arith, ints)) c.meet_range.ensures.kept
