use Rattle.std.proofs.Common.{◌≡◌, ◌++◌}
use Rattle.eu_forest.proofs.walk.put_in_order.Given as goal

abbrev pub invariant-loop-number : goal.invariant-loop-number
invariant-loop-number l = l.order.items ≡ l.initial.order.items ++ l.yielded
