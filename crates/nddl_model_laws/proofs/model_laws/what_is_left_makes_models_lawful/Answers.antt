use Rattle.nddl_model_laws.proofs.Joining.{rest_makes_lawful}
use Rattle.nddl_model_laws.proofs.model_laws.what_is_left_makes_models_lawful.Goals as goal

pub returns : goal.returns
returns c = rest_makes_lawful
