use Rattle.nddl_lexer.proofs.Outcomes.{one_reading}
use Rattle.nddl_lexer.proofs.lexing.each_text_has_one_reading.Goals as goal

pub returns : goal.returns
returns c = one_reading
