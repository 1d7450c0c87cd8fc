use Rattle.std.proofs.Common.{below_more, arith}
use Rattle.plan_inventory.proofs.open.unkept_slot_in.Goals as goal

pub loop-slot-preserved : goal.loop-slot-preserved
loop-slot-preserved c =
    below_more _ _ c.loop-slot.invariant (λ stands. c.if-not-is_slot_kept.ensures ((c.marks_of-marks.ensures.slots c.loop-slot.slot).1 stands))

pub returns-then-not-is_slot_kept : goal.returns-then-not-is_slot_kept
returns-then-not-is_slot_kept c = record {
  fails = λ keeps. c.if-not-is_slot_kept.ensures (λ marked. keeps ((c.marks_of-marks.ensures.slots c.loop-slot.slot).0 marked));
  before = c.loop-slot.invariant;
}

pub returns : goal.returns
returns c = λ slot stands.
    c.loop-slot.invariant slot (omega (arith, c.count_slots-slot-end.ensures c.args.plan.now slot stands, c.loop-slot-test.false)) stands
