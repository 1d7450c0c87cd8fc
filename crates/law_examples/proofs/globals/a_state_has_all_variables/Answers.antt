use Rattle.law_examples.proofs.Variables.{empty_closed, x_is_missing}
use Rattle.law_examples.proofs.globals.a_state_has_all_variables.Goals as goal

pub returns-clause-without : goal.returns-clause-without
returns-clause-without c = empty_closed

pub returns-clause-with : goal.returns-clause-with
returns-clause-with c = x_is_missing
