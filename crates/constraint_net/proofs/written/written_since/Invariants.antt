use Rattle.constraint_net.proofs.Writing.{WrittenFrom}
use Rattle.constraint_net.proofs.written.written_since.Given as goal

abbrev pub invariant-loop-step : goal.invariant-loop-step
invariant-loop-step l = WrittenFrom l.fn.mark l.step l.cells l.numbers.items
