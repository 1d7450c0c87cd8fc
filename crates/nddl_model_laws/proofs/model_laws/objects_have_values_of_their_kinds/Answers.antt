use Rattle.nddl_model_laws.proofs.Valued.{all_values}
use Rattle.nddl_model_laws.proofs.model_laws.objects_have_values_of_their_kinds.Goals as goal

pub returns : goal.returns
returns c = all_values
