use Rattle.law_examples.proofs.Left.{goal_choices, rejectable_choices, choices_beside_fact, choices_beside_other_predicate, choices_beside_goal, choices_at_bound, activation_left_out, activation_not_left_out, variable_choices, pair_choices, start_choices}
use Rattle.law_examples.proofs.flaws.flaws_have_their_choices.Goals as goal

pub returns : goal.returns
returns c = record {
  of_goal = goal_choices;
  of_rejectable = rejectable_choices;
  beside_fact = choices_beside_fact;
  beside_other_predicate = choices_beside_other_predicate;
  beside_goal = choices_beside_goal;
  at_bound = choices_at_bound;
  left_out = activation_left_out;
  not_left_out = activation_not_left_out;
  of_variable = variable_choices;
  of_pair = pair_choices;
  of_start = start_choices;
}
