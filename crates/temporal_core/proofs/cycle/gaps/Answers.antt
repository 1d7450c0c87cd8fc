use Rattle.std.proofs.Common.{pos, to_z, arith}
use Rattle.std.proofs.lemmas.Int.{ints}
use mir.Syntax.{w128}
use Rattle.temporal_core.specs.declared.edges.Edge.{Edge}
use Rattle.temporal_core.proofs.Cycles.{gap_sum_more}
use Rattle.temporal_core.proofs.cycle.gaps.Goals as goal

pub loop-place-preserved : goal.loop-place-preserved
loop-place-preserved c =
    let none : Edge = record { from = 0; to = 0; gap = pos 0 } in
    let more = gap_sum_more c.args.edges.now c.args.places.now c.requires c.loop-place.place-index none c.loop-place-test.true (to_z w128 c.loop-place.sum-bits) c.loop-place.invariant.rest in
    record { rest = omega (arith, ints); low = omega (arith, ints); high = omega (arith, ints) }
