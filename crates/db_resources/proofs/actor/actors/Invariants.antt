use Rattle.db_resources.specs.Actors.{IsActorOf}
use Rattle.db_resources.proofs.Picking.{GoesOn}
use Rattle.db_resources.proofs.actor.actors.Given as goal

abbrev pub invariant-loop-place : goal.invariant-loop-place
invariant-loop-place g l = GoesOn (IsActorOf (g.V.View.model l.view) (g.V.View.decisions l.view) (g.V.View.state l.view)) (g.V.View.state l.view).tokens l.place l.found.items
