use Rattle.std.proofs.Common.{◌≡◌, take}
use Rattle.constraint_net.specs.Calls.{given_by}
use Rattle.constraint_net.proofs.network.entries.Given as goal

abbrev pub invariant-loop-object : goal.invariant-loop-object
invariant-loop-object l = l.entries.items ≡ given_by (take l.object-index l.pairs)
