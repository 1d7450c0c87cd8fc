use Rattle.law_examples.proofs.Lawful.{lone_goal_lawful, ruled_lawful, localised_lawful, localised_rejectable_lawful, plain_facts_lawful, timeline_facts_lawful, small_tool_lawful, tool_lawful, battery_lawful, goal_and_fact_lawful, limited_lawful, limited_fact_lawful, fact_lawful, rejectable_lawful, two_goals_lawful, mixed_lawful, many_lawful}
use Rattle.law_examples.proofs.models.problems_of_tokens_are_lawful.Goals as goal

pub returns-clause-lone_goal : goal.returns-clause-lone_goal
returns-clause-lone_goal c = lone_goal_lawful

pub returns-clause-ruled : goal.returns-clause-ruled
returns-clause-ruled c = ruled_lawful

pub returns-clause-localised : goal.returns-clause-localised
returns-clause-localised c = localised_lawful

pub returns-clause-localised_rejectable : goal.returns-clause-localised_rejectable
returns-clause-localised_rejectable c = localised_rejectable_lawful

pub returns-clause-plain_facts : goal.returns-clause-plain_facts
returns-clause-plain_facts c = plain_facts_lawful

pub returns-clause-timeline_facts : goal.returns-clause-timeline_facts
returns-clause-timeline_facts c = timeline_facts_lawful

pub returns-clause-small_tool : goal.returns-clause-small_tool
returns-clause-small_tool c = small_tool_lawful

pub returns-clause-tool : goal.returns-clause-tool
returns-clause-tool c = tool_lawful

pub returns-clause-battery : goal.returns-clause-battery
returns-clause-battery c = battery_lawful

pub returns-clause-goal_and_fact : goal.returns-clause-goal_and_fact
returns-clause-goal_and_fact c = goal_and_fact_lawful

pub returns-clause-limited : goal.returns-clause-limited
returns-clause-limited c = limited_lawful

pub returns-clause-limited_fact : goal.returns-clause-limited_fact
returns-clause-limited_fact c = limited_fact_lawful

pub returns-clause-fact : goal.returns-clause-fact
returns-clause-fact c = fact_lawful

pub returns-clause-rejectable : goal.returns-clause-rejectable
returns-clause-rejectable c = rejectable_lawful

pub returns-clause-two_goals : goal.returns-clause-two_goals
returns-clause-two_goals c = two_goals_lawful

pub returns-clause-mixed : goal.returns-clause-mixed
returns-clause-mixed c = mixed_lawful

pub returns-clause-many : goal.returns-clause-many
returns-clause-many c = many_lawful
