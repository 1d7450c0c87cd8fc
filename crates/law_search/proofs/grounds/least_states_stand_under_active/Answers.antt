use Rattle.law_search.proofs.Grounding.{least_tokens_stand, least_variables_stand}
use Rattle.law_search.proofs.grounds.least_states_stand_under_active.Goals as goal

pub returns-clause-tokens : goal.returns-clause-tokens
returns-clause-tokens c = least_tokens_stand

pub returns-clause-variables : goal.returns-clause-variables
returns-clause-variables c = least_variables_stand
