use Rattle.std.proofs.Common.{pos, w32, to_z, of_z, arith}
use Rattle.std.proofs.lemmas.Int.{ints}
use mir.Syntax.{w128}
use Rattle.resource_profile.proofs.Sums.{taken_more}
use Rattle.resource_profile.proofs.usage.taken_at.Goals as goal

pub loop-usage-preserved : goal.loop-usage-preserved
loop-usage-preserved c =
    let loop = c.loop-usage in
    let more = taken_more c.args.uses.now (to_z w32 (of_z w32 c.args.instant)) (to_z w128 loop.taken-bits) loop.usage-index (record { from = pos 0; until = pos 0; quantity = pos 0 }) c.loop-usage-test.true loop.invariant.rest in
    record { rest = omega (arith, ints); low = omega (arith, ints); high = omega (arith, ints) }
