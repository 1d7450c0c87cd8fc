use Rattle.session_replies.proofs.ReadBack.{lines_are_read_back}
use Rattle.session_replies.proofs.laws.decision_lines_are_read_back.Goals as goal

pub returns : goal.returns
returns c = lines_are_read_back
