-- What a text of the language is read as.
use Rattle.std.specs.Prelude.{ℕ, List, Result, Ok, Err}
use Rattle.nddl_ast.specs.declared.declaration.Decl.{Decl}
use Rattle.nddl_parser.specs.declared.fault.TextFail.{TextFail}
use Rattle.nddl_parser.specs.declared.fault.TextFail.TheVariants as text
use Rattle.nddl_lexer.specs.declared.kinds.Lexeme.{Lexeme}
use Rattle.nddl_lexer.specs.Reading.{Lexes, IsFault}
use Rattle.nddl_parser.specs.declared.parsing.ParseFault.{ParseFault}
use Rattle.nddl_parser.specs.Derives.{Parses}

-- the text is lexemes, and these have the outcome
abbrev pub ParsesText : List ℕ → Result (List Decl) ParseFault → Type 0
ParsesText bytes outcome = (lexemes : List Lexeme) × Lexes bytes lexemes × Parses bytes lexemes outcome

-- the declarations that the text is, or its first fault: of its lexemes, and where they have none of its grammar
abbrev pub ReadsAs : List ℕ → Result (List Decl) TextFail → Type 0
ReadsAs bytes (Ok tree) = ParsesText bytes (Ok tree)
ReadsAs bytes (Err (text.Lex fault)) = IsFault bytes fault
ReadsAs bytes (Err (text.Parse fault)) = ParsesText bytes (Err fault)
