use Rattle.session_core.proofs.Answering.{line_once}
use Rattle.session_core.proofs.laws.each_line_has_one_reply.Goals as goal

pub returns : goal.returns
returns c = line_once c.lines_have_one_answer.ensures.answers c.a_state_has_one_plan.ensures
