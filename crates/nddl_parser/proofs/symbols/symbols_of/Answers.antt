use Rattle.std.proofs.lemmas.List.{take_more}
use Rattle.nddl_lexer.specs.declared.kinds.LexKind.TheVariants.{Word}
use Rattle.nddl_parser.proofs.SymbolTexts.{lexeme_at, one_more}
use Rattle.nddl_parser.proofs.symbols.symbols_of.Goals as goal

pub symbol_of-symbol-requires : goal.symbol_of-symbol-requires
symbol_of-symbol-requires c = lexeme_at c.args.text.now 0 c.args.lexemes.now c.loop-lexeme.lexeme-index _ c.requires c.loop-lexeme-test.true

pub loop-lexeme-preserved : goal.loop-lexeme-preserved
loop-lexeme-preserved c =
    rw (take_more c.args.lexemes.now c.loop-lexeme.lexeme-index (record { kind = Word; at = 0; len = 0 }) c.loop-lexeme-test.true, c.in_ok-push.ensures.items)
    (one_more c.args.text.now _ c.loop-lexeme.symbols.items _ c.symbol_of-symbol.result c.loop-lexeme.invariant c.symbol_of-symbol.ensures)
