-- What the token's state says.
use Rattle.plan_states.proofs.Placing.{rejected_answer}
use Rattle.plan_states.proofs.tokens.is_rejected.Goals as goal

pub returns-in-Some : goal.returns-in-Some
returns-in-Some g c = rejected_answer (g.V.View.model c.args.view.now) (g.V.View.decisions c.args.view.now) (g.V.View.state c.args.view.now) c.requires c.args.place c.in-Some.state c.says_rejected.result c.says_rejected.ensures c.in-Some.ensures
