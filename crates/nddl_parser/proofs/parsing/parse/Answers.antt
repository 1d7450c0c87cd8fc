use Rattle.nddl_lexer.proofs.Laws.{lie_in_order}
use Rattle.nddl_parser.proofs.parsing.parse.Goals as goal

pub symbols_of-requires : goal.symbols_of-requires
symbols_of-requires c = lie_in_order c.args.text.now c.args.lexemes.now c.requires.lexemes
