use Rattle.law_examples.proofs.Choices.{untaken_closed, taken_is_high, taken_closed, fact_is_high}
use Rattle.law_examples.proofs.tokens.rejectables_count_once_taken.Goals as goal

pub returns-clause-open : goal.returns-clause-open
returns-clause-open c = untaken_closed

pub returns-clause-taken : goal.returns-clause-taken
returns-clause-taken c = taken_is_high

pub returns-clause-kept : goal.returns-clause-kept
returns-clause-kept c = taken_closed

pub returns-clause-fact : goal.returns-clause-fact
returns-clause-fact c = fact_is_high
