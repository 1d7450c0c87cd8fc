use Rattle.europa_run.proofs.Once.{fault_front}
use Rattle.europa_run.proofs.laws.fault_leaves_front.Goals as goal

pub returns : goal.returns
returns c = fault_front c.posed_once.ensures c.each_line_has_one_reply.ensures c.words_have_one_output.ensures
