use Rattle.std.proofs.Common.{length}
use Rattle.constraint_net.specs.Agendas.{Shortens}
use Rattle.constraint_net.proofs.watchers.trim.Given as goal

abbrev pub invariant-loop-last : goal.invariant-loop-last
invariant-loop-last l = Shortens l.count l.fn.list.items l.list.items

abbrev pub decreases-loop-last : goal.decreases-loop-last
decreases-loop-last l = length l.list.items
