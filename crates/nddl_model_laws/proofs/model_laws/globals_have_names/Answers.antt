use Rattle.nddl_model_laws.proofs.Naming.{global_names}
use Rattle.nddl_model_laws.proofs.model_laws.globals_have_names.Goals as goal

pub returns : goal.returns
returns c = global_names
