use Rattle.law_examples.proofs.Related.{relation_closed, relation_overlap, unrelated_closed}
use Rattle.law_examples.proofs.tokens.posted_relations_hold.Goals as goal

pub returns-clause-before : goal.returns-clause-before
returns-clause-before c = relation_closed

pub returns-clause-overlapping : goal.returns-clause-overlapping
returns-clause-overlapping c = relation_overlap

pub returns-clause-unrelated : goal.returns-clause-unrelated
returns-clause-unrelated c = unrelated_closed
