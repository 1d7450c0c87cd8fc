use Rattle.db_resources.specs.Effects.{IsUseOn}
use Rattle.db_resources.proofs.Picking.{GoesOn}
use Rattle.db_resources.proofs.usage.uses_on.Given as goal

abbrev pub invariant-loop-actor : goal.invariant-loop-actor
invariant-loop-actor g l = GoesOn (IsUseOn (g.V.View.state l.view) l.object) l.actors l.actor-index l.found.items
