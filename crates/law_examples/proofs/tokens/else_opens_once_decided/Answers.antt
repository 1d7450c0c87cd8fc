use Rattle.law_examples.proofs.Choices.{else_is_missing, then_is_no_else, else_opened}
use Rattle.law_examples.proofs.tokens.else_opens_once_decided.Goals as goal

pub returns-clause-closed : goal.returns-clause-closed
returns-clause-closed c = else_is_missing

pub returns-clause-other : goal.returns-clause-other
returns-clause-other c = then_is_no_else

pub returns-clause-opened : goal.returns-clause-opened
returns-clause-opened c = else_opened
