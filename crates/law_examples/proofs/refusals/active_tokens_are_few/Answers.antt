use Rattle.law_examples.proofs.Reasons.{many_full, goal_free}
use Rattle.law_examples.proofs.refusals.active_tokens_are_few.Goals as goal

pub returns-clause-full : goal.returns-clause-full
returns-clause-full c = many_full

pub returns-clause-first : goal.returns-clause-first
returns-clause-first c = goal_free
