-- None so far.
use Rattle.flaw_core.specs.Seeking.{IsValueFlawOf}
use Rattle.flaw_core.proofs.Finding.{NoneBelow}
use Rattle.flaw_core.proofs.values.unbound_of_tokens.Given as goal

abbrev pub invariant-loop-place : goal.invariant-loop-place
invariant-loop-place g l = NoneBelow (g.V.View.model l.view) (g.V.View.decisions l.view) (g.V.View.state l.view) (IsValueFlawOf (g.V.View.state l.view)) l.place
