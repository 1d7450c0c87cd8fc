use Rattle.law_examples.proofs.Halving.{three_exhausted, three_only, three_stopped, three_unknown, three_left_over, three_not_taken}
use Rattle.law_examples.proofs.searching.five_visits_exhaust_a_problem.Goals as goal

pub returns : goal.returns
returns c = record {
  exhausted = three_exhausted;
  only_outcome = three_only;
  stopped = three_stopped;
  unknown = three_unknown;
  left_over = three_left_over;
  not_taken = three_not_taken;
}
