-- The symbols of lexemes: names are text, and one lexeme more is one symbol more.
use Rattle.std.proofs.Common.{◌≡◌, ℕ, zero, suc, ◌+◌, ◌<◌, true, List, [], ◌∷◌, ◌++◌, length, get_or, sym, subst, IsUtf8, arith}
use Rattle.std.proofs.lemmas.Str.{IsUtf8-from_ascii}
use Rattle.std.proofs.lemmas.Str.Ascii.{IsAscii-from_all}
use Rattle.std.proofs.lemmas.List.Elements.{All-cons}
use Rattle.std.proofs.lemmas.Bool.Decides.{nat_tests}
use Rattle.std.proofs.lemmas.Bool.{or_left}
use Rattle.eu_name.specs.Word.{is_word_start, is_word_byte, IsWord}
use Rattle.std.specs.Char.{is_ascii_digit}
use Rattle.nddl_lexer.specs.declared.kinds.LexKind.{LexKind}
use Rattle.nddl_lexer.specs.declared.kinds.LexKind.TheVariants as kinds
use Rattle.nddl_lexer.specs.declared.kinds.Lexeme.{Lexeme}
use Rattle.nddl_lexer.specs.Spelling.{IsSpelled}
use Rattle.nddl_lexer.specs.Reading.{AreLexemesOf, IsLexemeOf}
use Rattle.nddl_grammar.specs.declared.sort.Sort.TheVariants as sorts
use Rattle.nddl_grammar.specs.Symbols.{PlainSymbol}
use Rattle.nddl_parser.specs.Symbols.{sort_of, KeepsBytes, IsSymbolOf, AreSymbols}

word_byte_small : (byte : ℕ) → is_word_byte byte ≡ true → byte < 128
word_byte_small byte passes = grind (arith, nat_tests)

word_text : (bytes : List ℕ) → IsWord bytes → IsUtf8 bytes
word_text [] word = absurd word
word_text (byte ∷ bytes) word =
    IsUtf8-from_ascii (byte ∷ bytes)
    (IsAscii-from_all (byte ∷ bytes)
    (All-cons (λ b. b < 128) byte bytes (word_byte_small byte (or_left (is_word_start byte) (is_ascii_digit byte) word.0)) (λ k d within. word_byte_small (get_or bytes k d) (word.1 k d within))))

-- the bytes of a name are text
pub name_text : (kind : LexKind) (bytes kept : List ℕ) → IsSpelled kind bytes → KeepsBytes kind bytes kept → sort_of kind bytes ≡ sorts.Name → IsUtf8 kept
name_text kinds.Word bytes kept spelled keeps named = subst IsUtf8 (sym keeps) (word_text bytes spelled)
name_text kinds.Number bytes kept spelled keeps named = absurd cc
name_text kinds.Decimal bytes kept spelled keeps named = absurd cc
name_text kinds.Str bytes kept spelled keeps named = absurd cc
name_text kinds.Include bytes kept spelled keeps named = absurd cc
name_text kinds.BraceOpen bytes kept spelled keeps named = absurd cc
name_text kinds.BraceClose bytes kept spelled keeps named = absurd cc
name_text kinds.ParenOpen bytes kept spelled keeps named = absurd cc
name_text kinds.ParenClose bytes kept spelled keeps named = absurd cc
name_text kinds.BracketOpen bytes kept spelled keeps named = absurd cc
name_text kinds.BracketClose bytes kept spelled keeps named = absurd cc
name_text kinds.Semicolon bytes kept spelled keeps named = absurd cc
name_text kinds.Comma bytes kept spelled keeps named = absurd cc
name_text kinds.Point bytes kept spelled keeps named = absurd cc
name_text kinds.Assign bytes kept spelled keeps named = absurd cc
name_text kinds.Equal bytes kept spelled keeps named = absurd cc
name_text kinds.NotEqual bytes kept spelled keeps named = absurd cc
name_text kinds.DoubleColon bytes kept spelled keeps named = absurd cc

pub lexeme_at : (text : List ℕ) (from : ℕ) (lexemes : List Lexeme) (i : ℕ) (d : Lexeme) → AreLexemesOf text from lexemes → i < length lexemes → IsLexemeOf text (get_or lexemes i d)
lexeme_at text from [] i d are within = absurd (omega arith)
lexeme_at text from (l ∷ lexemes) zero d are within = are.1
lexeme_at text from (l ∷ lexemes) (suc i) d are within = lexeme_at text (l.at + l.len) lexemes i d are.2 (omega arith)

pub one_more : (text : List ℕ) (lexemes : List Lexeme) (symbols : List PlainSymbol) (l : Lexeme) (s : PlainSymbol) → AreSymbols text lexemes symbols → IsSymbolOf text l s → AreSymbols text (lexemes ++ l ∷ []) (symbols ++ s ∷ [])
one_more text [] [] l s are is = (is, tt)
one_more text [] (t ∷ symbols) l s are is = absurd are
one_more text (k ∷ lexemes) [] l s are is = absurd are
one_more text (k ∷ lexemes) (t ∷ symbols) l s are is = (are.0, one_more text lexemes symbols l s are.1 is)
