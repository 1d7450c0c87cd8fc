use Rattle.std.proofs.Common.{length, refl, arith}
use Rattle.constraint_net.proofs.Queueing.{foremost}
use Rattle.constraint_net.proofs.queue.Queue.first.Goals as goal

pub returns-in-Some-clause-first : goal.returns-in-Some-clause-first
returns-in-Some-clause-first c =
    let queue = c.self.inside in
    foremost c.args.self.now queue.items.items (length queue.standing.items) c.in-Some.number.now c.self.view_is (omega (arith, queue.items.ok.0, c.in-Some.ensures.variant.0 refl)) c.in-Some.ensures.lookup
