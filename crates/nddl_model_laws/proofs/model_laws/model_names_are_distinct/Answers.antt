use Rattle.nddl_model_laws.proofs.Distinct.{names_differ}
use Rattle.nddl_model_laws.proofs.model_laws.model_names_are_distinct.Goals as goal

pub returns : goal.returns
returns c = names_differ
