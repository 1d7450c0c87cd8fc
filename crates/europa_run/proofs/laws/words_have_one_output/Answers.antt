use Rattle.europa_run.proofs.Once.{output_once}
use Rattle.europa_run.proofs.laws.words_have_one_output.Goals as goal

pub returns : goal.returns
returns c = output_once c.posed_once.ensures c.posed_databases_are_sound.ensures c.each_line_has_one_reply.ensures c.texts_are_checked_once.ensures c.a_state_has_one_plan.ensures
