-- Each text has one reading.
use Rattle.std.proofs.Common.{◌≡◌, ℕ, ◌+◌, ℤ, pos, Some, Result, Ok, Err, List, [], ◌∷◌, length, refl, sym, ap, subst, ◌∙◌}
use Rattle.nddl_ast.specs.declared.declaration.Decl.{Decl}
use Rattle.nddl_parser.specs.declared.fault.TextFail.{TextFail}
use Rattle.nddl_parser.specs.declared.fault.TextFail.TheVariants as text
use Rattle.std.specs.Prelude.{IfErr, IsSome}
use Rattle.nddl_parser.specs.Faults.{fail_kind}
use Rattle.nddl_parser.specs.Laws.{TextsHaveOneReading}
use Rattle.nddl_lexer.specs.declared.kinds.LexFault.{LexFault}
use Rattle.nddl_lexer.specs.declared.kinds.LexFault.TheVariants as lexer
use Rattle.nddl_lexer.specs.declared.kinds.LexKind.{LexKind}
use Rattle.nddl_lexer.specs.declared.kinds.LexKind.TheVariants as kinds
use Rattle.nddl_lexer.specs.declared.kinds.Lexeme.{Lexeme}
use Rattle.nddl_lexer.specs.Spelling.{IsSpelled, IsInRange}
use Rattle.nddl_lexer.specs.Reading as lexing
use Rattle.nddl_lexer.specs.Reading.{Lexes, IsFault, IsLexemeOf, AreLexemesOf, bytes_of}
use Rattle.nddl_lexer.proofs.Outcomes as lexed
use Rattle.nddl_lexer.proofs.Laws.{lie_in_order}
use Rattle.nddl_grammar.specs.Symbols.{PlainSymbol}
use Rattle.nddl_grammar.specs.Readers.{Outcome, got, stuck, deep, next_place}
use Rattle.nddl_parser.specs.declared.parsing.ParseFault.{ParseFault}
use Rattle.nddl_parser.specs.declared.parsing.ParseFault.TheVariants as parser
use Rattle.nddl_parser.specs.Derives as parsing
use Rattle.nddl_parser.specs.Derives.{Parses}
use Rattle.nddl_parser.specs.Grammar.{most_nested}
use Rattle.nddl_parser.specs.Productions as productions
use Rattle.nddl_parser.specs.Symbols.{sort_of, KeepsBytes, HasValue, IsSymbolOf, AreSymbols}
use Rattle.nddl_parser.proofs.OneTree as parsed
use Rattle.nddl_parser.proofs.Outcomes.{whole_tree, more_left, stuck_there, deep_there}
use Rattle.nddl_parser.specs.Language.{ParsesText, ReadsAs}

-- ---- no two readings

-- the reading that a fault of the lexemes is, and that an outcome of the grammar is
abbrev of_lexing : LexFault → Result (List Decl) TextFail
of_lexing fault = Err (text.Lex fault)

abbrev of_parsing : Result (List Decl) ParseFault → Result (List Decl) TextFail
of_parsing (Ok tree) = Ok tree
of_parsing (Err fault) = Err (text.Parse fault)

-- how a text comes to a reading
data Comes (bytes : List ℕ) (reading : Result (List Decl) TextFail) : Type 0 where
  by_lexing : (fault : LexFault) → IsFault bytes fault → reading ≡ of_lexing fault → Comes bytes reading
  by_parsing : (outcome : Result (List Decl) ParseFault) → ParsesText bytes outcome → reading ≡ of_parsing outcome → Comes bytes reading

comes : (bytes : List ℕ) (reading : Result (List Decl) TextFail) → ReadsAs bytes reading → Comes bytes reading
comes bytes (Ok tree) is = by_parsing (Ok tree) is refl
comes bytes (Err (text.Lex fault)) is = by_lexing fault is refl
comes bytes (Err (text.Parse fault)) is = by_parsing (Err fault) is refl

same_fault : (bytes : List ℕ) (one other : LexFault) → IsFault bytes one → IsFault bytes other → one ≡ other
same_fault bytes one other p q =
    let first : Result (List Lexeme) LexFault = Err one in
    let second : Result (List Lexeme) LexFault = Err other in
    let same : first ≡ second = lexed.outcome_once bytes first second p q in
    cc

never_both : (bytes : List ℕ) (fault : LexFault) (lexemes : List Lexeme) → IsFault bytes fault → Lexes bytes lexemes → ⊥
never_both bytes fault lexemes p q =
    let first : Result (List Lexeme) LexFault = Err fault in
    let second : Result (List Lexeme) LexFault = Ok lexemes in
    let same : first ≡ second = lexed.outcome_once bytes first second p q in
    cc

same_outcome : (bytes : List ℕ) (one other : Result (List Decl) ParseFault) → ParsesText bytes one → ParsesText bytes other → one ≡ other
same_outcome bytes one other p q =
    parsed.one_outcome bytes p.0 one other p.1 p.2
    (subst (λ (lexemes : List Lexeme). Parses bytes lexemes other) (lexed.one_reading bytes q.0 p.0 q.1 p.1) q.2)

meet : (bytes : List ℕ) (one other : Result (List Decl) TextFail) → Comes bytes one → Comes bytes other → other ≡ one
meet bytes one other (by_lexing fault p is) (by_lexing last q was) = was ∙ ap of_lexing (same_fault bytes last fault q p) ∙ sym is
meet bytes one other (by_lexing fault p is) (by_parsing last q was) = absurd (never_both bytes fault q.0 p q.1)
meet bytes one other (by_parsing outcome p is) (by_lexing last q was) = absurd (never_both bytes last p.0 q p.1)
meet bytes one other (by_parsing outcome p is) (by_parsing last q was) = was ∙ ap of_parsing (same_outcome bytes last outcome q p) ∙ sym is

pub read_once : (bytes : List ℕ) (one other : Result (List Decl) TextFail) → ReadsAs bytes one → ReadsAs bytes other → other ≡ one
read_once bytes one other p q = meet bytes one other (comes bytes one p) (comes bytes other q)

-- ---- some reading

-- what is kept of a lexeme, and its value
some_parts : (kind : LexKind) (bytes : List ℕ) → IsSpelled kind bytes → IsInRange (Some kind) bytes → (kept : List ℕ) × (value : ℤ) × KeepsBytes kind bytes kept × HasValue kind bytes value
some_parts kinds.Str bytes spelled range = (spelled.inside, pos 0, spelled.parts, refl)
some_parts kinds.Number bytes spelled range = (bytes, range.0, refl, range.1)
some_parts kinds.Decimal bytes spelled range = (bytes, range.0, refl, range.1)
some_parts kind bytes spelled range = (bytes, pos 0, refl, refl)

some_symbol : (bytes : List ℕ) (lexeme : Lexeme) → IsLexemeOf bytes lexeme → (symbol : PlainSymbol) × IsSymbolOf bytes lexeme symbol
some_symbol bytes lexeme is =
    let (kept, value, keeps, has) = some_parts lexeme.kind (bytes_of bytes lexeme) is.spelled is.in_range in (
      record { sort = sort_of lexeme.kind (bytes_of bytes lexeme); bytes = kept; value = value; at = lexeme.at },
      record { sort = refl; bytes = keeps; value = has; at = refl },
    )

some_symbols : (bytes : List ℕ) (from : ℕ) (lexemes : List Lexeme) → AreLexemesOf bytes from lexemes → (symbols : List PlainSymbol) × AreSymbols bytes lexemes symbols
some_symbols bytes from [] are = ([], tt)
some_symbols bytes from (lexeme ∷ lexemes) are =
    let first = some_symbol bytes lexeme are.1 in
    let more = some_symbols bytes (lexeme.at + lexeme.len) lexemes are.2 in
    (first.0 ∷ more.0, (first.1, more.1))

outcome_of : (end : ℕ) (symbols : List PlainSymbol) (found : Outcome (List Decl)) → productions.text most_nested symbols ≡ found → (outcome : Result (List Decl) ParseFault) × parsing.IsParseOutcome end symbols outcome
outcome_of end symbols (got tree []) is = (Ok tree, whole_tree end symbols [] tree is refl)
outcome_of end symbols (got tree (symbol ∷ rest)) is = (Err (parser.Syntax (next_place end (symbol ∷ rest))), more_left end symbols (symbol ∷ rest) rest symbol tree is refl)
outcome_of end symbols (stuck rest) is = (Err (parser.Syntax (next_place end rest)), stuck_there end symbols rest is)
outcome_of end symbols (deep rest) is = (Err (parser.TooDeep (next_place end rest)), deep_there end symbols rest is)

some_parse : (bytes : List ℕ) (lexemes : List Lexeme) → Lexes bytes lexemes → (outcome : Result (List Decl) ParseFault) × Parses bytes lexemes outcome
some_parse bytes lexemes lexes =
    let symbols = some_symbols bytes 0 lexemes (lie_in_order bytes lexemes lexes) in
    let outcome = outcome_of (length bytes) symbols.0 (productions.text most_nested symbols.0) refl in
    (outcome.0, record { symbols = symbols.0; read = symbols.1; ends = outcome.1 })

-- want of memory is no outcome of a text
told : (bytes : List ℕ) (fail : TextFail) → ReadsAs bytes (Err fail) → IsSome (fail_kind fail)
told bytes (text.Lex (lexer.BadByte at)) is = refl
told bytes (text.Lex (lexer.OpenComment at)) is = refl
told bytes (text.Lex (lexer.OutOfRange at)) is = refl
told bytes (text.Lex lexer.Memory) is = absurd is.cause
told bytes (text.Parse (parser.Syntax at)) is = refl
told bytes (text.Parse (parser.TooDeep at)) is = refl
told bytes (text.Parse parser.Memory) is = absurd is.2.ends

told_reading : (bytes : List ℕ) (reading : Result (List Decl) TextFail) → ReadsAs bytes reading → IfErr reading (λ fail. IsSome (fail_kind fail))
told_reading bytes (Ok tree) is = tt
told_reading bytes (Err fail) is = told bytes fail is

parse_reading : (bytes : List ℕ) (outcome : Result (List Decl) ParseFault) → ParsesText bytes outcome → (reading : Result (List Decl) TextFail) × ReadsAs bytes reading
parse_reading bytes (Ok tree) is = (Ok tree, is)
parse_reading bytes (Err fault) is = (Err (text.Parse fault), is)

some_reading : (bytes : List ℕ) (outcome : Result (List Lexeme) LexFault) → lexing.IsOutcome bytes outcome → (reading : Result (List Decl) TextFail) × ReadsAs bytes reading
some_reading bytes (Ok lexemes) is =
    let parse = some_parse bytes lexemes is in
    parse_reading bytes parse.0 (lexemes, is, parse.1)
some_reading bytes (Err fault) is = (Err (text.Lex fault), is)

pub one_reading : TextsHaveOneReading ReadsAs
one_reading bytes short =
    let outcome = lexed.one_outcome bytes in
    let some = some_reading bytes outcome.0 outcome.1 in
    (some.0, record { is = some.1; only = λ other is. read_once bytes some.0 other some.1 is }, told_reading bytes some.0 some.1)
