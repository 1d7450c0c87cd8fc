use Rattle.law_examples.proofs.Related.{untaken_high, taken_high, taken_kept}
use Rattle.law_examples.proofs.tokens.posted_constraints_count_once_taken.Goals as goal

pub returns-clause-untaken : goal.returns-clause-untaken
returns-clause-untaken c = untaken_high

pub returns-clause-taken : goal.returns-clause-taken
returns-clause-taken c = taken_high

pub returns-clause-kept : goal.returns-clause-kept
returns-clause-kept c = taken_kept
