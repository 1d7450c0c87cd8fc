-- The symbols so far are those of the lexemes so far.
use Rattle.std.proofs.Common.{take}
use Rattle.nddl_parser.specs.Symbols.{AreSymbols}
use Rattle.nddl_parser.proofs.symbols.symbols_of.Given as goal

abbrev pub invariant-loop-lexeme : goal.invariant-loop-lexeme
invariant-loop-lexeme l = AreSymbols l.text (take l.lexeme-index l.lexemes) l.symbols.items
