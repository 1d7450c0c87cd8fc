use Rattle.db_posting.proofs.Suiting.{arguments_can_be_posted}
use Rattle.db_posting.proofs.laws.arguments_can_be_posted.Goals as goal

pub returns : goal.returns
returns c = arguments_can_be_posted
