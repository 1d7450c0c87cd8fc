use Rattle.law_states.proofs.Splitting.{conflict_same}
use Rattle.law_states.proofs.conflicts.a_conflict_is_one.Goals as goal

pub returns : goal.returns
returns c = conflict_same
