use Rattle.law_states.proofs.Settled.{admissible_or_refused}
use Rattle.law_states.proofs.existence.decisions_are_admissible_or_refused.Goals as goal

pub returns : goal.returns
returns c = admissible_or_refused
