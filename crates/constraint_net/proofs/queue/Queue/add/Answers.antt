use Rattle.std.proofs.Common.{arith}
use Rattle.std.specs.VecDeque.{deque_capacity}
use Rattle.constraint_net.proofs.Queueing.{read_false, memory_left, added_as, takes_new}
use Rattle.constraint_net.proofs.queue.Queue.add.Goals as goal

pub push_back_reserved-requires : goal.push_back_reserved-requires
push_back_reserved-requires c =
    let queue = c.self.inside in
    let standing = queue.standing.items in
    let unset = read_false standing c.args.number c.index.result.now c.index.ensures c.if-index.false in
    omega (arith, queue.items.ok.0, memory_left queue.items.items standing (deque_capacity queue.items) c.args.number c.self.invariant (omega (arith, c.if-number-len.false, c.len.ensures, queue.standing.ok.0)) unset)

pub invariant_of-self : goal.invariant_of-self
invariant_of-self c =
    let queue = c.self.inside in
    let standing = queue.standing.items in
    let unset = read_false standing c.args.number c.index.result.now c.index.ensures c.if-index.false in
    added_as queue.items.items c.push_back_reserved.new.self.items standing (deque_capacity queue.items) (deque_capacity c.push_back_reserved.new.self) c.args.number
    (omega (arith, c.if-number-len.false, c.len.ensures, queue.standing.ok.0)) unset c.push_back_reserved.ensures.items c.push_back_reserved.ensures.capacity c.self.invariant

pub returns : goal.returns
returns c =
    let queue = c.self.inside in
    let standing = queue.standing.items in
    let unset = read_false standing c.args.number c.index.result.now c.index.ensures c.if-index.false in
    takes_new c.args.self.now queue.items.items c.push_back_reserved.new.self.items standing (deque_capacity queue.items) c.args.number c.self.view_is
    (omega (arith, c.if-number-len.false, c.len.ensures, queue.standing.ok.0)) unset c.push_back_reserved.ensures.items c.self.invariant
