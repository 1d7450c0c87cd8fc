-- The variable at the place, where it has several values.
use Rattle.flaw_core.proofs.Sorting.{time_found, time_none}
use Rattle.flaw_core.proofs.times.unbound_at.Goals as goal

pub returns-then-has_several : goal.returns-then-has_several
returns-then-has_several g c = time_found (g.V.View.model c.args.view.now) (g.V.View.decisions c.args.view.now) (g.V.View.state c.args.view.now) c.requires.least.least.closed.consistent.is_state c.args.at c.requires.kept c.requires.timed c.if-has_several.ensures

pub returns-else-has_several : goal.returns-else-has_several
returns-else-has_several g c = time_none (g.V.View.model c.args.view.now) (g.V.View.decisions c.args.view.now) (g.V.View.state c.args.view.now) c.requires.least.least.closed.consistent.is_state c.args.at c.if-has_several.ensures
