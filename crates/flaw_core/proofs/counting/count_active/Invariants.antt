-- As many were counted as there are below the place.
use Rattle.model_core.specs.Decided.{IsActive}
use Rattle.flaw_core.proofs.Gathering.{IsCounted}
use Rattle.flaw_core.proofs.counting.count_active.Given as goal

abbrev pub invariant-loop-place : goal.invariant-loop-place
invariant-loop-place g l = IsCounted (IsActive (g.V.View.model l.view) (g.V.View.decisions l.view)) (g.V.View.state l.view) l.place l.active
