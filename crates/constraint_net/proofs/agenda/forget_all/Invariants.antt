use Rattle.constraint_net.specs.Agendas.{KeepsBelow}
use Rattle.constraint_net.proofs.agenda.forget_all.Given as goal

abbrev pub invariant-loop-arg : goal.invariant-loop-arg
invariant-loop-arg l = KeepsBelow l.count l.fn.watchers l.watchers
