use Rattle.db_resources.specs.Effects.{IsChangeOf}
use Rattle.db_resources.proofs.Picking.{GoesOn}
use Rattle.db_resources.proofs.change.changes_on.Given as goal

abbrev pub invariant-loop-actor : goal.invariant-loop-actor
invariant-loop-actor g l = GoesOn (IsChangeOf (g.V.View.state l.view) l.object l.extreme) l.actors l.actor-index l.found.items
