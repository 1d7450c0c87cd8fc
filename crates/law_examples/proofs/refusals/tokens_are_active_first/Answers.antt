use Rattle.law_examples.proofs.Reasons.{goal_before_itself, quantity_untaken, quantity_taken, target_inactive, merge_free, goal_inactive, order_free}
use Rattle.law_examples.proofs.Posted.{low_untaken, low_taken, relation_untaken, relation_free}
use Rattle.law_examples.proofs.refusals.tokens_are_active_first.Goals as goal

pub returns-clause-untaken : goal.returns-clause-untaken
returns-clause-untaken c = quantity_untaken

pub returns-clause-taken : goal.returns-clause-taken
returns-clause-taken c = quantity_taken

pub returns-clause-target : goal.returns-clause-target
returns-clause-target c = target_inactive

pub returns-clause-active_target : goal.returns-clause-active_target
returns-clause-active_target c = merge_free

pub returns-clause-ordered_goal : goal.returns-clause-ordered_goal
returns-clause-ordered_goal c = goal_inactive

pub returns-clause-ordered_facts : goal.returns-clause-ordered_facts
returns-clause-ordered_facts c = order_free

pub returns-clause-ordered_before_itself : goal.returns-clause-ordered_before_itself
returns-clause-ordered_before_itself c = goal_before_itself

pub returns-clause-constrained_untaken : goal.returns-clause-constrained_untaken
returns-clause-constrained_untaken c = low_untaken

pub returns-clause-constrained_taken : goal.returns-clause-constrained_taken
returns-clause-constrained_taken c = low_taken

pub returns-clause-related_untaken : goal.returns-clause-related_untaken
returns-clause-related_untaken c = relation_untaken

pub returns-clause-related_goals : goal.returns-clause-related_goals
returns-clause-related_goals c = relation_free
