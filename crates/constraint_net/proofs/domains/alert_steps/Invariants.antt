use Rattle.constraint_net.specs.Agendas.{Stays, SteppedFrom}
use Rattle.constraint_net.proofs.domains.alert_steps.Given as goal

abbrev pub invariant-loop-step : goal.invariant-loop-step
invariant-loop-step l = record {
  stays : Stays l.fn.agenda l.agenda;
  stepped : SteppedFrom l.fn.mark l.step l.cells l.fn.agenda l.agenda;
}
