use Rattle.nddl_unroll.specs.Counting.{pairs_of}
use Rattle.nddl_unroll.proofs.CountingSteps.{pairs_step}
use Rattle.nddl_unroll.proofs.counting.pairs_of.Goals as goal

pub loop-place-preserved : goal.loop-place-preserved
loop-place-preserved c =
    pairs_step c.args.exprs.now c.loop-place.place c.loop-place.total c.saturating_add-total.result (pairs_of c.args.exprs.now 0)
    c.loop-place-test.true c.saturating_add-total.ensures c.loop-place.invariant
