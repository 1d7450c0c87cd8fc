use Rattle.model_core.proofs.WellFormed.{token_text_well_formed, variable_text_well_formed}
use Rattle.model_core.proofs.resolve.texts_are_well_formed.Goals as goal

pub returns-clause-tokens : goal.returns-clause-tokens
returns-clause-tokens c = token_text_well_formed

pub returns-clause-variables : goal.returns-clause-variables
returns-clause-variables c = variable_text_well_formed
