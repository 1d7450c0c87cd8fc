-- Those so far are the first values.
use Rattle.plan_defs.specs.Surveying.{AreFirstValues}
use Rattle.plan_states.proofs.parts.part_values.Given as goal

abbrev pub invariant-loop-number : goal.invariant-loop-number
invariant-loop-number g l = AreFirstValues (g.V.View.state l.view) l.place l.number l.values.items
