use Rattle.law_examples.proofs.Reasons.{mixed_differ, merge_free}
use Rattle.law_examples.proofs.refusals.merges_are_of_one_predicate.Goals as goal

pub returns-clause-mixed : goal.returns-clause-mixed
returns-clause-mixed c = mixed_differ

pub returns-clause-same : goal.returns-clause-same
returns-clause-same c = merge_free
