-- None so far.
use Rattle.flaw_core.specs.Seeking.{IsRuleFlawAt}
use Rattle.flaw_core.proofs.Finding.{NoneBelow}
use Rattle.flaw_core.proofs.values.unbound_local.Given as goal

abbrev pub invariant-loop-rule : goal.invariant-loop-rule
invariant-loop-rule g l = NoneBelow (g.V.View.model l.view) (g.V.View.decisions l.view) (g.V.View.state l.view) (IsRuleFlawAt (g.V.View.state l.view) l.place) l.rule
