use Rattle.law_examples.proofs.Examples.{goal_closed, goal_is_missing}
use Rattle.law_examples.proofs.tokens.a_state_has_all_tokens.Goals as goal

pub returns-clause-with : goal.returns-clause-with
returns-clause-with c = goal_closed

pub returns-clause-without : goal.returns-clause-without
returns-clause-without c = goal_is_missing
