use Rattle.std.proofs.Common.{◌≡◌, length, take}
use Rattle.constraint_net.specs.Agendas.{Forgets}
use Rattle.constraint_net.specs.Waiting.{NameWithin}
use Rattle.constraint_net.proofs.network.forget.Given as goal

abbrev pub invariant-loop-constraints : goal.invariant-loop-constraints
invariant-loop-constraints l = record {
  taken : take l.count l.constraints ≡ take l.count l.fn.constraints;
  forgets : Forgets l.count l.fn.agenda l.agenda;
  named : NameWithin (length l.agenda.watchers) l.constraints;
}

abbrev pub decreases-loop-constraints : goal.decreases-loop-constraints
decreases-loop-constraints l = length l.constraints
