use Rattle.std.proofs.Common.{sym, subst, ◌∙◌}
use Rattle.nddl_lexer.specs.Spelling.{IsSpelled}
use Rattle.nddl_parser.proofs.SymbolTexts.{name_text}
use Rattle.nddl_parser.proofs.symbols.symbol_of.Goals as goal

pub new-requires : goal.new-requires
new-requires c = λ named.
    name_text c.args.lexeme.now.kind c.bytes-bytes.result.now c.kept.result.now
    (subst (IsSpelled c.args.lexeme.now.kind) (sym c.bytes-bytes.ensures) c.requires.spelled) c.kept.ensures (sym c.sort_of-sort.ensures ∙ named)
