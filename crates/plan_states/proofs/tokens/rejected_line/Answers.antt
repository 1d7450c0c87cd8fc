-- The token is rejected.
use Rattle.plan_defs.proofs.Stating.{states_rejected}
use Rattle.plan_states.proofs.tokens.rejected_line.Goals as goal

pub returns-in-Ok : goal.returns-in-Ok
returns-in-Ok g c = states_rejected (g.V.View.model c.args.view.now) (g.V.View.decisions c.args.view.now) (g.V.View.state c.args.view.now) c.requires.settled c.args.place c.in-Ok.name c.in-Ok.ensures.copied c.requires.at
