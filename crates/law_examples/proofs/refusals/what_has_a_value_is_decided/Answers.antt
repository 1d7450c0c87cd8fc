use Rattle.law_examples.proofs.Reasons.{x_decided, fact_decided, goal_free, rejected_fact_decided}
use Rattle.law_examples.proofs.Settling.{y_next_admissible}
use Rattle.law_examples.proofs.refusals.what_has_a_value_is_decided.Goals as goal

pub returns-clause-decided : goal.returns-clause-decided
returns-clause-decided c = x_decided

pub returns-clause-other : goal.returns-clause-other
returns-clause-other c = y_next_admissible

pub returns-clause-fact : goal.returns-clause-fact
returns-clause-fact c = fact_decided

pub returns-clause-goal : goal.returns-clause-goal
returns-clause-goal c = goal_free

pub returns-clause-rejected_fact : goal.returns-clause-rejected_fact
returns-clause-rejected_fact c = rejected_fact_decided
