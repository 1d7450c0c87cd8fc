use Rattle.law_examples.proofs.Locals.{local_closed, local_is_missing, local_is_outside}
use Rattle.law_examples.proofs.tokens.locals_come_with_their_rule.Goals as goal

pub returns-clause-with : goal.returns-clause-with
returns-clause-with c = local_closed

pub returns-clause-without : goal.returns-clause-without
returns-clause-without c = local_is_missing

pub returns-clause-outside : goal.returns-clause-outside
returns-clause-outside c = local_is_outside
