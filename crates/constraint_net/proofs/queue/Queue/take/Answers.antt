use Rattle.std.proofs.Common.{arith}
use Rattle.std.specs.VecDeque.{deque_capacity}
use Rattle.constraint_net.proofs.Queueing.{taken_as}
use Rattle.constraint_net.proofs.queue.Queue.take.Goals as goal

pub index_mut-requires : goal.index_mut-requires
index_mut-requires c =
    let queue = c.self.inside in
    omega (
      arith,
      queue.standing.ok.0,
      (taken_as queue.items.items c.pop_front.new.self.items queue.standing.items (deque_capacity queue.items) (deque_capacity c.pop_front.new.self) c.in_ok-number.number
          c.in_ok-number.ensures.items c.pop_front.ensures.capacity c.self.invariant).0,
    )

pub invariant_of-self-2 : goal.invariant_of-self-2
invariant_of-self-2 c =
    let queue = c.self.inside in
    (taken_as queue.items.items c.pop_front.new.self.items queue.standing.items (deque_capacity queue.items) (deque_capacity c.pop_front.new.self) c.in_ok-number.number
    c.in_ok-number.ensures.items c.pop_front.ensures.capacity c.self.invariant).1
