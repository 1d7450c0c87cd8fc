use Rattle.law_examples.proofs.Posted.{posted_decided, turned_free, relation_decided, other_relation_free}
use Rattle.law_examples.proofs.refusals.postings_stand_once.Goals as goal

pub returns-clause-again : goal.returns-clause-again
returns-clause-again c = posted_decided

pub returns-clause-turned : goal.returns-clause-turned
returns-clause-turned c = turned_free

pub returns-clause-related_again : goal.returns-clause-related_again
returns-clause-related_again c = relation_decided

pub returns-clause-other_relation : goal.returns-clause-other_relation
returns-clause-other_relation c = other_relation_free
