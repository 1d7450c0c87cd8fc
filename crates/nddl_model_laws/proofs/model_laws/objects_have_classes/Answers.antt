use Rattle.nddl_model_laws.proofs.Placed.{objects_placed}
use Rattle.nddl_model_laws.proofs.model_laws.objects_have_classes.Goals as goal

pub returns : goal.returns
returns c = objects_placed
