use Rattle.std.proofs.Common.{below_more, arith}
use Rattle.plan_inventory.proofs.open.unkept_local_in.Goals as goal

pub loop-number-preserved : goal.loop-number-preserved
loop-number-preserved c =
    below_more _ _ c.loop-number.invariant (λ stands. c.if-not-is_local_kept.ensures ((c.marks_of-marks.ensures.locals c.loop-number.number).1 stands))

pub returns-then-not-is_local_kept : goal.returns-then-not-is_local_kept
returns-then-not-is_local_kept c = record {
  fails = λ keeps. c.if-not-is_local_kept.ensures (λ marked. keeps ((c.marks_of-marks.ensures.locals c.loop-number.number).0 marked));
  before = c.loop-number.invariant;
}

pub returns : goal.returns
returns c = λ number stands.
    c.loop-number.invariant number (omega (arith, c.count_locals-number-end.ensures c.args.plan.now number stands, c.loop-number-test.false)) stands
