use Rattle.model_core.proofs.OneText.{one_token_text, one_variable_text}
use Rattle.model_core.proofs.resolve.each_has_one_text.Goals as goal

pub returns-clause-tokens : goal.returns-clause-tokens
returns-clause-tokens c = one_token_text

pub returns-clause-variables : goal.returns-clause-variables
returns-clause-variables c = one_variable_text
