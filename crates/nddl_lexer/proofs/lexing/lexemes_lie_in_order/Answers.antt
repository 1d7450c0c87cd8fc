use Rattle.nddl_lexer.proofs.Laws.{lie_in_order}
use Rattle.nddl_lexer.proofs.lexing.lexemes_lie_in_order.Goals as goal

pub returns : goal.returns
returns c = lie_in_order
