use Rattle.nddl_lexer.proofs.Outcomes.{one_outcome}
use Rattle.nddl_lexer.proofs.lexing.each_text_has_one_outcome.Goals as goal

pub returns : goal.returns
returns c = one_outcome
