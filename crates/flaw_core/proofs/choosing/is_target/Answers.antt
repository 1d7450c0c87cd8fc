-- Active, and of the predicate.
use Rattle.std.proofs.Common.{rules}
use Rattle.timeline_core.proofs.Deciding.{settled_once}
use Rattle.flaw_core.proofs.Numbering.{target_told, target_inactive, target_without}
use Rattle.flaw_core.proofs.choosing.is_target.Goals as goal

pub is_active-requires : goal.is_active-requires
is_active-requires g c = settled_once (g.V.View.model c.args.view.now) (g.V.View.decisions c.args.view.now) c.requires.least.settled

pub returns-then-not-is_active : goal.returns-then-not-is_active
returns-then-not-is_active g c = target_inactive (g.V.View.model c.args.view.now) c.args.model.now c.requires.model (g.V.View.decisions c.args.view.now) (g.V.View.state c.args.view.now) c.args.place c.args.pred c.if-not-is_active.ensures

pub returns-in-Some : goal.returns-in-Some
returns-in-Some g c = target_told (g.V.View.model c.args.view.now) c.args.model.now c.requires.model (g.V.View.decisions c.args.view.now) (g.V.View.state c.args.view.now) c.args.place c.args.pred c.in-Some.found _ c.if-not-is_active.ensures c.in-Some.ensures (search rules)

pub returns-in-None : goal.returns-in-None
returns-in-None g c = target_without (g.V.View.model c.args.view.now) c.args.model.now c.requires.model (g.V.View.decisions c.args.view.now) (g.V.View.state c.args.view.now) c.args.place c.args.pred c.in-None.ensures
