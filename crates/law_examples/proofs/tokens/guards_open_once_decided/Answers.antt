use Rattle.law_examples.proofs.Examples.{guard_undecided, then_is_missing, then_opened}
use Rattle.law_examples.proofs.tokens.guards_open_once_decided.Goals as goal

pub returns-clause-undecided : goal.returns-clause-undecided
returns-clause-undecided c = guard_undecided

pub returns-clause-closed : goal.returns-clause-closed
returns-clause-closed c = then_is_missing

pub returns-clause-opened : goal.returns-clause-opened
returns-clause-opened c = then_opened
