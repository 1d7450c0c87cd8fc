use Rattle.std.proofs.Common.{[], ◌∷◌, false, arith}
use Rattle.model_core.specs.declared.class.ObjectKind.TheVariants as kind
use Rattle.law_examples.proofs.Broken.{x_plan, x_inside, x_outside, x_without_value, x_low, x_high, goal_plan, goal_valid, goal_as_fact, goal_left_out, goal_rejected, goal_too_long, goal_too_late, merged_with_itself, taken_plan, quantity_low, quantity_high, unlimited_plan, quantity_unlimited}
use Rattle.law_examples.proofs.Sharing.{facts_plan, facts_in_turn, facts_overlap, facts_overlap_elsewhere, use_plan, use_within, use_beyond, taking_plan, not_below, below}
use Rattle.law_examples.proofs.Swaps.{old_is, old_valid}
use Rattle.law_examples.proofs.Unasked.{local_plan, local_there, local_missing, local_outside, rejected_plan, rejected_valid, local_unasked}
use Rattle.law_examples.specs.Globals.{at_most_1}
use Rattle.law_examples.proofs.plans.each_clause_is_broken_alone.Goals as goal

pub returns : goal.returns
returns c = record {
  inside = record { is_plan = x_plan [] 2 (omega arith); valid = x_inside };
  outside = x_outside;
  without_value = x_without_value;
  as_goal = record { is_plan = goal_plan false 0 1 1 1 (omega arith) (omega arith) (omega arith) (omega arith); valid = goal_valid };
  as_fact = goal_as_fact;
  left_out = goal_left_out;
  rejected = goal_rejected;
  too_long = goal_too_long;
  too_late = goal_too_late;
  into_other = record { is_plan = old_is; valid = old_valid };
  into_itself = merged_with_itself;
  with_local = record { is_plan = local_plan 0 (omega arith); valid = local_there };
  without_local = local_missing;
  local_outside = local_outside;
  nothing_asked = record { is_plan = rejected_plan; valid = rejected_valid };
  unasked_local = local_unasked;
  low = record { is_plan = x_plan (at_most_1 ∷ []) 1 (omega arith); valid = x_low };
  high = x_high;
  few = record { is_plan = taken_plan 1 (omega arith); valid = quantity_low };
  many = quantity_high;
  not_counted = record { is_plan = unlimited_plan; valid = quantity_unlimited };
  in_turn = record { is_plan = facts_plan kind.Timeline 5 (omega arith); valid = facts_in_turn };
  overlapping = facts_overlap;
  on_no_timeline = record { is_plan = facts_plan kind.Plain 4 (omega arith); valid = facts_overlap_elsewhere };
  within = record { is_plan = use_plan 2 (omega arith); valid = use_within };
  beyond = use_beyond;
  not_below = record { is_plan = taking_plan 5 (omega arith); valid = not_below };
  below = below;
}
