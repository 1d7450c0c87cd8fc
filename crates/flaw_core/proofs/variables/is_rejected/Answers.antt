-- What the token's state says.
use Rattle.plan_states.proofs.Placing.{rejected_answer}
use Rattle.timeline_core.proofs.Telling.{no_token}
use Rattle.flaw_core.proofs.Telling.{settled_of}
use Rattle.flaw_core.proofs.variables.is_rejected.Goals as goal

pub returns-in-Some : goal.returns-in-Some
returns-in-Some g c = rejected_answer (g.V.View.model c.args.view.now) (g.V.View.decisions c.args.view.now) (g.V.View.state c.args.view.now) (settled_of (g.V.View.model c.args.view.now) (g.V.View.decisions c.args.view.now) (g.V.View.state c.args.view.now) c.requires) c.args.place c.in-Some.state c.says_rejected.result c.says_rejected.ensures c.in-Some.ensures

pub returns-in-None : goal.returns-in-None
returns-in-None g c = λ token here rejected. no_token (g.V.View.state c.args.view.now) c.args.place token c.in-None.ensures here
