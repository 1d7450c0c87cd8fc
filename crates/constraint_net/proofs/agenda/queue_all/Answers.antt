use Rattle.constraint_net.proofs.Queueing.{lengthens_trans, takes_more}
use Rattle.constraint_net.proofs.agenda.queue_all.Goals as goal

pub loop-number-preserved : goal.loop-number-preserved
loop-number-preserved c =
    let loop = c.loop-number in
    let start = c.args.waiting.now in
    record {
      lengthens = lengthens_trans start loop.waiting c.add.new.self loop.invariant.lengthens c.add.ensures.lengthens;
      added = takes_more c.args.numbers.now loop.number-index 0 start loop.waiting c.add.new.self c.loop-number-test.true loop.invariant.lengthens loop.invariant.added c.add.ensures;
    }
