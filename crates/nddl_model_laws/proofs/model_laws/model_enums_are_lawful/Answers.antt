use Rattle.nddl_model_laws.proofs.Tables.{enums_lawful}
use Rattle.nddl_model_laws.proofs.model_laws.model_enums_are_lawful.Goals as goal

pub returns : goal.returns
returns c = enums_lawful
