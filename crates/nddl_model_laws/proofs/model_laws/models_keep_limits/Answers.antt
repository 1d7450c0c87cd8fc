use Rattle.nddl_model_laws.proofs.Counted.{has_few}
use Rattle.nddl_model_laws.proofs.model_laws.models_keep_limits.Goals as goal

pub returns : goal.returns
returns c = has_few
