use Rattle.law_examples.proofs.Left.{goal_undecided, goal_decided, fact_decided, x_several, x_single, rejectable_open, rejected_closed, facts_unordered, facts_ordered, facts_take_turns, facts_on_no_timeline, facts_turned, start_open, start_fixed, end_closed, goal_flawless, goal_flawed, token_first, quantity_later}
use Rattle.law_examples.proofs.flaws.flaws_are_what_is_left_open.Goals as goal

pub returns : goal.returns
returns c = record {
  undecided = goal_undecided;
  decided = goal_decided;
  fact = fact_decided;
  several = x_several;
  single = x_single;
  of_open_token = rejectable_open;
  of_rejected_token = rejected_closed;
  unordered = facts_unordered;
  ordered = facts_ordered;
  in_turn = facts_take_turns;
  on_no_timeline = facts_on_no_timeline;
  turned = facts_turned;
  untimed = start_open;
  timed = start_fixed;
  end = end_closed;
  none = goal_flawless;
  some = goal_flawed;
  first = token_first;
  later = quantity_later;
}
