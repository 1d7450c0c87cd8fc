use Rattle.std.proofs.Common.{arith}
use Rattle.constraint_net.proofs.Queueing.{told_yes, told_no, from_more, from_all, not_from}
use Rattle.constraint_net.proofs.queue.are_from.Goals as goal

pub returns-then-index-count : goal.returns-then-index-count
returns-then-index-count c =
    told_no (not_from c.args.count c.args.numbers.now.items c.loop-place.place c.index.result.now
    (omega (arith, c.loop-place-test.true, c.len-place-end.ensures, c.args.numbers.now.ok.0)) c.index.ensures c.if-index-count.true)

pub loop-place-preserved : goal.loop-place-preserved
loop-place-preserved c =
    from_more c.args.count c.args.numbers.now.items c.loop-place.place c.index.result.now
    (omega (arith, c.loop-place-test.true, c.len-place-end.ensures, c.args.numbers.now.ok.0)) c.index.ensures c.if-index-count.false c.loop-place.invariant

pub returns : goal.returns
returns c =
    told_yes (from_all c.args.count c.args.numbers.now.items c.loop-place.place
    (omega (arith, c.loop-place-test.false, c.len-place-end.ensures, c.args.numbers.now.ok.0)) c.loop-place.invariant)
