use Rattle.std.proofs.Common.{subst}
use Rattle.std.specs.Prelude.{◌↔◌, IsTrue}
use Rattle.constraint_net.specs.Queues.{AreFrom, Queued}
use Rattle.constraint_net.proofs.queue.Queue.is_from.Goals as goal

pub returns : goal.returns
returns c = subst (λ (queue : Queued). IsTrue c.are_from.result ↔ AreFrom c.args.count queue.items) c.self.view_is c.are_from.ensures
