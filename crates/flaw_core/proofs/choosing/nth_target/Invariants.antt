-- So many of those below the place were passed by.
use Rattle.flaw_core.specs.Gathering.{IsTarget}
use Rattle.flaw_core.proofs.Gathering.{IsPassed}
use Rattle.flaw_core.proofs.choosing.nth_target.Given as goal

abbrev pub invariant-loop-place : goal.invariant-loop-place
invariant-loop-place g l = IsPassed (IsTarget l.model (g.V.View.decisions l.view) l.pred) (g.V.View.state l.view) l.fn.number l.place l.left
