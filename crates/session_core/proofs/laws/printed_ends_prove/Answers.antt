use Rattle.session_core.proofs.Ending.{printed_ends}
use Rattle.session_core.proofs.laws.printed_ends_prove.Goals as goal

pub returns : goal.returns
returns c = printed_ends c.lines_have_one_answer.ensures.answers
