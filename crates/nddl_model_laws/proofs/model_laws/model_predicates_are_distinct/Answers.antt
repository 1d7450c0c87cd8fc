use Rattle.nddl_model_laws.proofs.Tables.{model_preds_differ}
use Rattle.nddl_model_laws.proofs.model_laws.model_predicates_are_distinct.Goals as goal

pub returns : goal.returns
returns c = model_preds_differ
