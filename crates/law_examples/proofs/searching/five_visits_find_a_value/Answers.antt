use Rattle.law_examples.proofs.Halving.{six_found, six_only, six_stopped, six_not_exhausted}
use Rattle.law_examples.proofs.searching.five_visits_find_a_value.Goals as goal

pub returns : goal.returns
returns c = record { found = six_found; only_outcome = six_only; stopped = six_stopped; not_exhausted = six_not_exhausted }
