use Rattle.model_lawful.proofs.Tokening.{pred_told, no_root}
use Rattle.model_lawful.proofs.decisions.pred_of.Goals as goal

pub returns-in-Some : goal.returns-in-Some
returns-in-Some c = pred_told c.args.model.now c.args.token.now c.in-Some.root.now c.in-Some.ensures c.as_slice.result.now c.as_slice.ensures c.pred_after.result c.pred_after.ensures

pub returns-in-None : goal.returns-in-None
returns-in-None c = no_root c.args.model.now c.args.token.now c.in-None.ensures
