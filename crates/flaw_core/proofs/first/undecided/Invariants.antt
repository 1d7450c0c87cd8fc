-- None so far.
use Rattle.flaw_core.proofs.Finding.{NoneBelow}
use Rattle.flaw_core.proofs.Sorting.{IsUndecidedAt}
use Rattle.flaw_core.proofs.first.undecided.Given as goal

abbrev pub invariant-loop-place : goal.invariant-loop-place
invariant-loop-place g l = NoneBelow (g.V.View.model l.view) (g.V.View.decisions l.view) (g.V.View.state l.view) (IsUndecidedAt (g.V.View.state l.view)) l.place
