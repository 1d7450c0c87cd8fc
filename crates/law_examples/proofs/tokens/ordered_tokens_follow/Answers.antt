use Rattle.law_examples.proofs.Choices.{ordered_closed, ordered_overlap, ordered_turned, unordered_closed}
use Rattle.law_examples.proofs.tokens.ordered_tokens_follow.Goals as goal

pub returns-clause-before : goal.returns-clause-before
returns-clause-before c = ordered_closed

pub returns-clause-overlapping : goal.returns-clause-overlapping
returns-clause-overlapping c = ordered_overlap

pub returns-clause-after : goal.returns-clause-after
returns-clause-after c = ordered_turned

pub returns-clause-unordered : goal.returns-clause-unordered
returns-clause-unordered c = unordered_closed
