use Rattle.std.proofs.Common.{arith}
use Rattle.std.specs.VecDeque.{deque_capacity}
use Rattle.constraint_net.proofs.Queueing.{grown_as}
use Rattle.constraint_net.proofs.queue.Queue.grow.Goals as goal

pub invariant_of-self-2 : goal.invariant_of-self-2
invariant_of-self-2 c =
    let queue = c.self.inside in
    grown_as queue.items.items c.reserve.new.self.items queue.standing.items c.push.new.self.items (deque_capacity queue.items) (deque_capacity c.reserve.new.self) c.reserve.ensures.items c.in_ok-push.ensures.items
    (omega (arith, c.in_ok-reserve.ensures.ok, c.reserve.ensures.len, c.len-room.ensures, c.len.ensures, queue.standing.ok.0))
    (omega (arith, c.in_ok-short.ensures.fits, c.len-room.ensures)) c.self.invariant
