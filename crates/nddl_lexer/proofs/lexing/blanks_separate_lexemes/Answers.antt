use Rattle.nddl_lexer.proofs.Laws.{blanks_separate}
use Rattle.nddl_lexer.proofs.lexing.blanks_separate_lexemes.Goals as goal

pub returns : goal.returns
returns c = blanks_separate
