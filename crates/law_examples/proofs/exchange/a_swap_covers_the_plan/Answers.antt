use Rattle.law_examples.proofs.Swaps.{old_is, old_valid, only_activation, not_activated, may_change, is_swap, new_goes_well}
use Rattle.law_examples.proofs.exchange.a_swap_covers_the_plan.Goals as goal

pub returns : goal.returns
returns c = record {
  old_is_plan = old_is;
  old_is_valid = old_valid;
  only_choice = only_activation;
  lost = not_activated;
  may_swap = may_change;
  swapped = is_swap;
  new_is_plan = new_goes_well.is_plan;
  new_is_valid = new_goes_well.valid;
  as_many = new_goes_well.count;
  covered = new_goes_well.agrees;
}
