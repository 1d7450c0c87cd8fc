-- The symbols of a text: names are names, values are in range, and places rise.
use Rattle.std.proofs.Common.{◌≡◌, ℕ, ℤ, ◌+◌, ◌<◌, ◌≤◌, Bool, true, false, List, [], ◌∷◌, length, refl, sym, ◌∙◌, ap, subst, arith}
use Rattle.std.specs.Prelude.{Option, Some, None, is_some}
use Rattle.eu_name.specs.Word.{IsWord, IsName, reserved_of}
use Rattle.eu_name.specs.declared.word.Reserved.{Reserved}
use Rattle.eu_name.proofs.Reserved.{reserved_is}
use Rattle.nddl_lexer.specs.declared.kinds.LexKind.{LexKind}
use Rattle.nddl_lexer.specs.declared.kinds.LexKind.TheVariants as kinds
use Rattle.nddl_lexer.specs.declared.kinds.Lexeme.{Lexeme}
use Rattle.nddl_lexer.specs.Spelling.{IsNumberInRange}
use Rattle.nddl_lexer.specs.Reading.{AreLexemesOf, IsLexemeOf, bytes_of}
use Rattle.nddl_grammar.specs.declared.sort.Sort.{Sort}
use Rattle.nddl_grammar.specs.declared.sort.Sort.TheVariants as sorts
use Rattle.nddl_grammar.specs.Sorts.{sort_number}
use Rattle.nddl_grammar.specs.Symbols.{PlainSymbol}
use Rattle.nddl_parser.specs.Symbols.{word_sort, sort_of, IsSymbolOf, AreSymbols}
use Rattle.nddl_parser.proofs.SymbolsOnce.{symbols_once}

-- what the bytes and the value of a symbol are, by its sort
pub record IsFineSymbol (symbol : PlainSymbol) : Type 0 where
  pub name : symbol.sort ≡ sorts.Name → IsName symbol.bytes
  pub number : symbol.sort ≡ sorts.Number → IsNumberInRange symbol.value
  pub decimal : symbol.sort ≡ sorts.Decimal → IsNumberInRange symbol.value

abbrev pub AreFineSymbols : List PlainSymbol → Type 0
AreFineSymbols [] = Unit {0}
AreFineSymbols (symbol ∷ symbols) = IsFineSymbol symbol × AreFineSymbols symbols

no_sort : (one other : Sort) → sort_number one < sort_number other → one ≡ other → ⊥
no_sort one other less same = let n = ap sort_number same in omega arith

not_reserved : (found : Option Reserved) → word_sort found ≡ sorts.Name → is_some found ≡ true → ⊥
not_reserved None sort some = cc
not_reserved (Some word) sort some = cc

not_number : (found : Option Reserved) → word_sort found ≡ sorts.Number → ⊥
not_number None sort = cc
not_number (Some word) sort = cc

not_decimal : (found : Option Reserved) → word_sort found ≡ sorts.Decimal → ⊥
not_decimal None sort = cc
not_decimal (Some word) sort = cc

-- a lexeme with a value is a symbol with that value
abbrev with_value : PlainSymbol → ℤ → PlainSymbol
with_value symbol value = record symbol { value = value }

same_value : (text : List ℕ) (lexeme : Lexeme) (one other : PlainSymbol) → IsSymbolOf text lexeme one → IsSymbolOf text lexeme other → one.value ≡ other.value
same_value text lexeme one other p q =
    let same : one ∷ [] ≡ other ∷ [] = symbols_once text (lexeme ∷ []) (one ∷ []) (other ∷ []) (p, tt) (q, tt) in
    let heads : one ≡ other = cc in
    ap (λ s. s.value) heads

-- the sort of a lexeme that is no word, number or decimal
abbrev is_plain : LexKind → Bool
is_plain kinds.Word = false
is_plain kinds.Number = false
is_plain kinds.Decimal = false
is_plain kind = true

plain_sort : (kind : LexKind) (bytes : List ℕ) → is_plain kind ≡ true → 3 < sort_number (sort_of kind bytes)
plain_sort kinds.Word bytes plain = absurd (let never : ⊥ = cc in never)
plain_sort kinds.Number bytes plain = absurd (let never : ⊥ = cc in never)
plain_sort kinds.Decimal bytes plain = absurd (let never : ⊥ = cc in never)
plain_sort kind bytes plain = omega arith

fine_plain : (kind : LexKind) (bytes : List ℕ) (symbol : PlainSymbol) → is_plain kind ≡ true → symbol.sort ≡ sort_of kind bytes → IsFineSymbol symbol
fine_plain kind bytes symbol plain sort =
    let n = plain_sort kind bytes plain in
    let m = ap sort_number sort in
    record {
      name = λ is. absurd (let k : sort_number symbol.sort ≡ 0 = ap sort_number is in omega arith);
      number = λ is. absurd (let k : sort_number symbol.sort ≡ 2 = ap sort_number is in omega arith);
      decimal = λ is. absurd (let k : sort_number symbol.sort ≡ 3 = ap sort_number is in omega arith);
    }

name_of : (bytes kept : List ℕ) → IsWord bytes → kept ≡ bytes → word_sort (reserved_of bytes) ≡ sorts.Name → IsName kept
name_of bytes kept word same named =
    subst IsName (sym same) (word, λ reserved. not_reserved (reserved_of bytes) named (reserved_is bytes reserved))

fine_kind : (text : List ℕ) (kind : LexKind) (at len : ℕ) (symbol : PlainSymbol)
    → IsLexemeOf text (record { kind = kind; at = at; len = len }) → IsSymbolOf text (record { kind = kind; at = at; len = len }) symbol → IsFineSymbol symbol
fine_kind text kinds.Word at len symbol lexeme is =
    let bytes = bytes_of text (record { kind = kinds.Word; at = at; len = len }) in
    record {
      name = λ named. name_of bytes symbol.bytes lexeme.spelled is.bytes (sym is.sort ∙ named);
      number = λ other. absurd (not_number (reserved_of bytes) (sym is.sort ∙ other));
      decimal = λ other. absurd (not_decimal (reserved_of bytes) (sym is.sort ∙ other));
    }
fine_kind text kinds.Number at len symbol lexeme is =
    let range = lexeme.in_range in
    let other : PlainSymbol = with_value symbol range.0 in
    let same : range.0 ≡ symbol.value = same_value text (record { kind = kinds.Number; at = at; len = len }) other symbol
    (record { sort = is.sort; bytes = is.bytes; value = range.1; at = is.at }) is in
    record {
      name = λ named. absurd (let k : 2 ≡ 0 = sym (ap sort_number is.sort) ∙ ap sort_number named in omega arith);
      number = λ _. subst IsNumberInRange same range.2;
      decimal = λ other. absurd (let k : 2 ≡ 3 = sym (ap sort_number is.sort) ∙ ap sort_number other in omega arith);
    }
fine_kind text kinds.Decimal at len symbol lexeme is =
    let range = lexeme.in_range in
    let other : PlainSymbol = with_value symbol range.0 in
    let same : range.0 ≡ symbol.value = same_value text (record { kind = kinds.Decimal; at = at; len = len }) other symbol
    (record { sort = is.sort; bytes = is.bytes; value = range.1; at = is.at }) is in
    record {
      name = λ named. absurd (let k : 3 ≡ 0 = sym (ap sort_number is.sort) ∙ ap sort_number named in omega arith);
      number = λ other. absurd (let k : 3 ≡ 2 = sym (ap sort_number is.sort) ∙ ap sort_number other in omega arith);
      decimal = λ _. subst IsNumberInRange same range.2;
    }
fine_kind text kind at len symbol lexeme is =
    fine_plain kind (bytes_of text (record { kind = kind; at = at; len = len })) symbol refl is.sort

pub fine_symbols : (text : List ℕ) (from : ℕ) (lexemes : List Lexeme) (symbols : List PlainSymbol) → AreLexemesOf text from lexemes → AreSymbols text lexemes symbols → AreFineSymbols symbols
fine_symbols text from [] [] lie are = tt
fine_symbols text from [] (symbol ∷ symbols) lie are = absurd are
fine_symbols text from (lexeme ∷ lexemes) [] lie are = absurd are
fine_symbols text from (lexeme ∷ lexemes) (symbol ∷ symbols) lie are =
    (fine_kind text lexeme.kind lexeme.at lexeme.len symbol lie.1 are.0, fine_symbols text (lexeme.at + lexeme.len) lexemes symbols lie.2 are.1)

-- ---- places

-- the places rise from the one on, and lie before the end
abbrev pub Rise : ℕ → ℕ → List ℕ → Type 0
Rise from end [] = Unit {0}
Rise from end (place ∷ places) = (from ≤ place) × (place < end) × Rise (place + 1) end places

abbrev pub places_of : List PlainSymbol → List ℕ
places_of [] = []
places_of (symbol ∷ symbols) = symbol.at ∷ places_of symbols

pub rise_later : (from other end : ℕ) (places : List ℕ) → other ≤ from → Rise from end places → Rise other end places
rise_later from other end [] less rise = tt
rise_later from other end (place ∷ places) less rise = ((let low : from ≤ place = rise.0 in omega arith), rise.1, rise.2)

pub rising_symbols : (text : List ℕ) (from : ℕ) (lexemes : List Lexeme) (symbols : List PlainSymbol) → AreLexemesOf text from lexemes → AreSymbols text lexemes symbols
    → Rise from (length text) (places_of symbols)
rising_symbols text from [] [] lie are = tt
rising_symbols text from [] (symbol ∷ symbols) lie are = absurd are
rising_symbols text from (lexeme ∷ lexemes) [] lie are = absurd are
rising_symbols text from (lexeme ∷ lexemes) (symbol ∷ symbols) lie are =
    let low : from ≤ lexeme.at = lie.0 in
    let within : lexeme.at + lexeme.len ≤ length text = lie.1.within in
    let some : 0 < lexeme.len = lie.1.some in
    let same : symbol.at ≡ lexeme.at = are.0.at in (
      omega arith,
      omega arith,
      rise_later (lexeme.at + lexeme.len) (symbol.at + 1) (length text) (places_of symbols) (omega arith)
          (rising_symbols text (lexeme.at + lexeme.len) lexemes symbols lie.2 are.1),
    )
