use Rattle.db_posting.proofs.Saying.{what_counts_is_said}
use Rattle.db_posting.proofs.laws.what_counts_is_said.Goals as goal

pub returns : goal.returns
returns c = what_counts_is_said
