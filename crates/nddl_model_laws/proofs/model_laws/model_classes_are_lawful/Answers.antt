use Rattle.nddl_model_laws.proofs.Tables.{model_classes_lawful}
use Rattle.nddl_model_laws.proofs.model_laws.model_classes_are_lawful.Goals as goal

pub returns : goal.returns
returns c = model_classes_lawful
