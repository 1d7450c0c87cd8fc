-- The kind and the place of what is wrong with the lexemes of a text.
use Rattle.std.specs.Prelude.{ℕ, Option, Some, None}
use Rattle.nddl_ast.specs.declared.kind.TextKind.{TextKind}
use Rattle.nddl_ast.specs.declared.kind.TextKind.TheVariants as texts
use Rattle.nddl_lexer.specs.declared.kinds.LexFault.{LexFault}
use Rattle.nddl_lexer.specs.declared.kinds.LexFault.TheVariants as lexer

-- what kind of fault it is; want of memory is none
abbrev pub lex_kind : LexFault → Option TextKind
lex_kind (lexer.BadByte at) = Some texts.BadByte
lex_kind (lexer.OpenComment at) = Some texts.OpenComment
lex_kind (lexer.OutOfRange at) = Some texts.OutOfRange
lex_kind lexer.Memory = None

-- the byte at which it is
abbrev pub lex_place : LexFault → Option ℕ
lex_place (lexer.BadByte at) = Some at
lex_place (lexer.OpenComment at) = Some at
lex_place (lexer.OutOfRange at) = Some at
lex_place lexer.Memory = None
