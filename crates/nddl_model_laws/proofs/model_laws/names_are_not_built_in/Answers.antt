use Rattle.nddl_model_laws.proofs.Foreign.{all_foreign}
use Rattle.nddl_model_laws.proofs.model_laws.names_are_not_built_in.Goals as goal

pub returns : goal.returns
returns c = all_foreign
