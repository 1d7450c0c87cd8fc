use Rattle.plan_values.proofs.Ruling.{pred_found}
use Rattle.plan_values.proofs.tokens.pred_at.Goals as goal

pub returns-in-Some : goal.returns-in-Some
returns-in-Some c = pred_found c.args.model.now c.args.root c.args.steps.now c.in-Some.root.now c.in-Some.ensures c.pred_after.result c.pred_after.ensures
