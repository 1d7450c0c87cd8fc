use Rattle.std.proofs.Common.{length}
use Rattle.model_rules.proofs.Marking.{marks_more}
use Rattle.model_rules.proofs.numbers.are_new.Goals as goal

pub loop-number-preserved : goal.loop-number-preserved
loop-number-preserved c =
    let more = marks_more (length c.args.marks.now) c.args.numbers.now c.loop-number.number-index 0 c.loop-number.marks c.is_new.new.marks c.loop-number-test.true
    c.loop-number.invariant.marked c.loop-number.invariant.distinct c.if-not-is_new.ensures in
    record { marked = more.0; distinct = more.1 }
