use Rattle.law_examples.proofs.Agreed.{nothing_agrees, x_agrees, x_differs, quantity_agrees, quantity_differs, activation_agrees, fact_differs, merge_agrees, merge_differs, rejection_agrees, rejection_differs, order_agrees, overlap_differs, order_differs, constraint_agrees, constraint_differs, none_differs, relation_agrees, relation_differs, any_agrees, any_differs, both_agree, one_differs}
use Rattle.law_examples.proofs.Swaps.{not_activated}
use Rattle.law_examples.proofs.agreement.plans_agree_with_what_they_say.Goals as goal

pub returns : goal.returns
returns c = record {
  nothing = nothing_agrees;
  value = x_agrees;
  other_value = x_differs;
  value_of_target = quantity_agrees;
  none_of_target = quantity_differs;
  activated = activation_agrees;
  as_other = not_activated;
  as_fact = fact_differs;
  merged = merge_agrees;
  merged_back = merge_differs;
  rejected = rejection_agrees;
  not_rejected = rejection_differs;
  ordered = order_agrees;
  overlapping = overlap_differs;
  turned = order_differs;
  constrained = constraint_agrees;
  other_constraint = constraint_differs;
  without_value = none_differs;
  related = relation_agrees;
  unrelated = relation_differs;
  any = any_agrees;
  any_of_rejected = any_differs;
  both = both_agree;
  only_one = one_differs;
}
