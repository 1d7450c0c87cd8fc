-- Those so far are the first values.
use Rattle.plan_defs.proofs.Telling.{AreGlobalsUpTo}
use Rattle.plan_states.proofs.making.global_values.Given as goal

abbrev pub invariant-loop-number : goal.invariant-loop-number
invariant-loop-number g l = AreGlobalsUpTo (g.V.View.state l.view) l.number l.values.items
