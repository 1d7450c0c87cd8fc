use Rattle.law_examples.proofs.Settling.{second_drops, second_is_not_kept, first_stays, both_stay, other_stays}
use Rattle.law_examples.proofs.decisions.settling_drops_what_is_not_admissible.Goals as goal

pub returns-clause-dropped : goal.returns-clause-dropped
returns-clause-dropped c = second_drops

pub returns-clause-not_kept : goal.returns-clause-not_kept
returns-clause-not_kept c = second_is_not_kept

pub returns-clause-not_first : goal.returns-clause-not_first
returns-clause-not_first c = first_stays

pub returns-clause-kept : goal.returns-clause-kept
returns-clause-kept c = both_stay

pub returns-clause-not_dropped : goal.returns-clause-not_dropped
returns-clause-not_dropped c = other_stays
