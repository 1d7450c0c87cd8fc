-- None so far.
use Rattle.flaw_core.specs.Seeking.{IsTimeFlawOf}
use Rattle.flaw_core.proofs.Finding.{NoneBelow}
use Rattle.flaw_core.proofs.times.unbound_time.Given as goal

abbrev pub invariant-loop-place : goal.invariant-loop-place
invariant-loop-place g l = NoneBelow (g.V.View.model l.view) (g.V.View.decisions l.view) (g.V.View.state l.view) (IsTimeFlawOf (g.V.View.state l.view)) l.place
