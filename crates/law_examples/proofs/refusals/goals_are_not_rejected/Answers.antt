use Rattle.law_examples.proofs.Reasons.{goal_not_rejectable, rejectable_free}
use Rattle.law_examples.proofs.refusals.goals_are_not_rejected.Goals as goal

pub returns-clause-goal : goal.returns-clause-goal
returns-clause-goal c = goal_not_rejectable

pub returns-clause-rejectable : goal.returns-clause-rejectable
returns-clause-rejectable c = rejectable_free
