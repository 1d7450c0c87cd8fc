-- The symbols of lexemes.
use Rattle.std.specs.Prelude.{◌≡◌, ℕ, ℤ, pos, Option, Some, None, List, [], ◌∷◌, ◌++◌}
use Rattle.eu_name.specs.declared.word.Reserved.{Reserved}
use Rattle.eu_name.specs.Word.{reserved_of}
use Rattle.nddl_lexer.specs.declared.kinds.LexKind.{LexKind}
use Rattle.nddl_lexer.specs.declared.kinds.LexKind.TheVariants as kinds
use Rattle.nddl_lexer.specs.declared.kinds.Lexeme.{Lexeme}
use Rattle.nddl_lexer.specs.Spelling.{SpellsNumber, SpellsDecimal}
use Rattle.nddl_lexer.specs.Reading.{bytes_of}
use Rattle.nddl_grammar.specs.declared.sort.Sort.{Sort}
use Rattle.nddl_grammar.specs.declared.sort.Sort.TheVariants as sorts
use Rattle.nddl_grammar.specs.Symbols.{PlainSymbol}

-- the sort of a word: that of the reserved word that it is, and else a name's
abbrev pub word_sort : Option Reserved → Sort
word_sort None = sorts.Name
word_sort (Some word) = sorts.Word word

abbrev pub sort_of : LexKind → List ℕ → Sort
sort_of kinds.Word bytes = word_sort (reserved_of bytes)
sort_of kinds.Number bytes = sorts.Number
sort_of kinds.Decimal bytes = sorts.Decimal
sort_of kinds.Str bytes = sorts.Quoted
sort_of kinds.Include bytes = sorts.Include
sort_of kinds.BraceOpen bytes = sorts.BraceOpen
sort_of kinds.BraceClose bytes = sorts.BraceClose
sort_of kinds.ParenOpen bytes = sorts.ParenOpen
sort_of kinds.ParenClose bytes = sorts.ParenClose
sort_of kinds.BracketOpen bytes = sorts.BracketOpen
sort_of kinds.BracketClose bytes = sorts.BracketClose
sort_of kinds.Semicolon bytes = sorts.Semicolon
sort_of kinds.Comma bytes = sorts.Comma
sort_of kinds.Point bytes = sorts.Point
sort_of kinds.Assign bytes = sorts.Assign
sort_of kinds.Equal bytes = sorts.Equal
sort_of kinds.NotEqual bytes = sorts.NotEqual
sort_of kinds.DoubleColon bytes = sorts.DoubleColon

-- of a string only what stands between the quotes is kept
abbrev pub KeepsBytes : LexKind → List ℕ → List ℕ → Type 0
KeepsBytes kinds.Str bytes kept = bytes ≡ 34 ∷ (kept ++ 34 ∷ [])
KeepsBytes kind bytes kept = kept ≡ bytes

-- the value of a number, of a decimal in thousandths, and 0 of all else
abbrev pub HasValue : LexKind → List ℕ → ℤ → Type 0
HasValue kinds.Number bytes value = SpellsNumber bytes value
HasValue kinds.Decimal bytes value = SpellsDecimal bytes value
HasValue kind bytes value = value ≡ pos 0

-- the symbol that a lexeme of the text is
pub record IsSymbolOf (text : List ℕ) (lexeme : Lexeme) (symbol : PlainSymbol) : Type 0 where
  pub sort : symbol.sort ≡ sort_of lexeme.kind (bytes_of text lexeme)
  pub bytes : KeepsBytes lexeme.kind (bytes_of text lexeme) symbol.bytes
  pub value : HasValue lexeme.kind (bytes_of text lexeme) symbol.value
  pub at : symbol.at ≡ lexeme.at

abbrev pub AreSymbols : List ℕ → List Lexeme → List PlainSymbol → Type 0
AreSymbols text [] [] = Unit {0}
AreSymbols text (lexeme ∷ lexemes) (symbol ∷ symbols) = IsSymbolOf text lexeme symbol × AreSymbols text lexemes symbols
AreSymbols text lexemes symbols = ⊥
