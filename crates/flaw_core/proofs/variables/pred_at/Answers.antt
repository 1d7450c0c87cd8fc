-- The predicate is that of the token at the place.
use Rattle.plan_states.proofs.Placing.{pred_told}
use Rattle.flaw_core.proofs.variables.pred_at.Goals as goal

pub returns-in-Some : goal.returns-in-Some
returns-in-Some g c = pred_told c.args.model.now (g.V.View.state c.args.view.now) c.args.place c.in-Some.token.now c.pred_of.result c.in-Some.ensures c.pred_of.ensures
