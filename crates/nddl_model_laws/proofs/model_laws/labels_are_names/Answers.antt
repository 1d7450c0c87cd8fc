use Rattle.nddl_model_laws.proofs.Naming.{labels_named}
use Rattle.nddl_model_laws.proofs.model_laws.labels_are_names.Goals as goal

pub returns : goal.returns
returns c = labels_named
