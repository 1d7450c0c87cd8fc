use Rattle.law_examples.proofs.Choices.{merged_closed, merged_later, merged_shorter, merged_more, unmerged_closed}
use Rattle.law_examples.proofs.tokens.merged_tokens_are_alike.Goals as goal

pub returns-clause-alike : goal.returns-clause-alike
returns-clause-alike c = merged_closed

pub returns-clause-later : goal.returns-clause-later
returns-clause-later c = merged_later

pub returns-clause-shorter : goal.returns-clause-shorter
returns-clause-shorter c = merged_shorter

pub returns-clause-more : goal.returns-clause-more
returns-clause-more c = merged_more

pub returns-clause-apart : goal.returns-clause-apart
returns-clause-apart c = unmerged_closed
