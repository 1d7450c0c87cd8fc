use Rattle.law_examples.proofs.Examples.{undecided_drained_closed, drained_too_low}
use Rattle.law_examples.proofs.tokens.reservoirs_count_once_all_is_decided.Goals as goal

pub returns-clause-undecided : goal.returns-clause-undecided
returns-clause-undecided c = undecided_drained_closed

pub returns-clause-decided : goal.returns-clause-decided
returns-clause-decided c = drained_too_low
