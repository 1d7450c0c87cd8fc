use Rattle.std.proofs.Common.{◌≤ℤ◌, w32, to_z, of_z, arith}
use Rattle.std.proofs.lemmas.Int.{ints}
use Rattle.domain_core.proofs.Sharing.{ranges_decided}
use Rattle.domain_core.proofs.interval.Interval.overlaps.Goals as goal

pub returns-then-self-other : goal.returns-then-self-other
returns-then-self-other c =
    let a = c.args.self.now in
    let b = c.args.other.now in
    let low : a.lo ≤ℤ b.hi = omega (arith, ints) in
    ranges_decided a.lo a.hi b.lo b.hi (to_z w32 (of_z w32 b.lo)) (to_z w32 (of_z w32 a.hi)) c.requires.self_domain.2 c.requires.other_domain.2 low (omega (arith, ints)) (omega (arith, ints))
