use Rattle.std.proofs.Common.{◌≡◌, length}
use Rattle.constraint_net.proofs.queue.clear.Given as goal

abbrev pub invariant-loop-number : goal.invariant-loop-number
invariant-loop-number l = l.queue.room ≡ l.fn.queue.room

abbrev pub decreases-loop-number : goal.decreases-loop-number
decreases-loop-number l = length l.queue.items
