use Rattle.model_core.proofs.Naming.{names_one_token, names_one_variable}
use Rattle.model_core.proofs.resolve.texts_name_one.Goals as goal

pub returns-clause-tokens : goal.returns-clause-tokens
returns-clause-tokens c = names_one_token

pub returns-clause-variables : goal.returns-clause-variables
returns-clause-variables c = names_one_variable
