-- The symbols of a text can be written.
use Rattle.std.proofs.Common.{◌≡◌, ℕ, ℤ, Bool, true, false, inl, inr, Some, List, [], ◌∷◌, ◌++◌, ◌+◌, refl, sym, ap, subst, ◌∙◌}
use Rattle.std.specs.Prelude.{Option, None}
use Rattle.std.proofs.lemmas.List.{append_cancel_right}
use Rattle.eu_name.specs.Word.{IsWord, reserved_of}
use Rattle.eu_name.specs.declared.word.Reserved.{Reserved}
use Rattle.nddl_lexer.specs.declared.kinds.LexKind.{LexKind}
use Rattle.nddl_lexer.specs.declared.kinds.LexKind.TheVariants as kinds
use Rattle.nddl_lexer.specs.declared.kinds.Lexeme.{Lexeme}
use Rattle.nddl_lexer.specs.Bytes.{is_quotable, AllPassing}
use Rattle.nddl_lexer.specs.Spelling.{IsSpelled, IsInRange, IsString, IsNumberInRange}
use Rattle.nddl_lexer.specs.Reading.{AreLexemesOf, bytes_of}
use Rattle.nddl_grammar.specs.declared.sort.Sort.{Sort}
use Rattle.nddl_grammar.specs.declared.sort.Sort.TheVariants as sorts
use Rattle.nddl_grammar.specs.Symbols.{PlainSymbol}
use Rattle.nddl_parser.specs.Symbols.{word_sort, sort_of, KeepsBytes, HasValue, AreSymbols}
use Rattle.nddl_parser.proofs.SymbolsOnce.{number_once, decimal_once}
use Rattle.nddl_print.proofs.Saying.{is_fixed, IsFine, AreFine}

-- ---- sorts

-- whether the sort is a name's or has one spelling
abbrev is_of_word : Sort → Bool
is_of_word sorts.Number = false
is_of_word sorts.Decimal = false
is_of_word sorts.Quoted = false
is_of_word sort = true

word_sorts : (found : Option Reserved) → is_of_word (word_sort found) ≡ true
word_sorts None = refl
word_sorts (Some word) = refl

-- a sort that passes is none that fails
no_sort : (test : Sort → Bool) (sort is other : Sort) → test is ≡ true → test other ≡ false → sort ≡ is → sort ≡ other → ⊥
no_sort test sort is other passes fails p q = let both : true ≡ false = sym passes ∙ (ap test (sym p ∙ q) ∙ fails) in cc

fine_fixed : (symbol : PlainSymbol) (sort : Sort) → is_fixed sort ≡ true → symbol.sort ≡ sort → IsFine symbol
fine_fixed symbol sort fixed is = record {
  named = λ other. absurd (no_sort is_fixed _ sort sorts.Name fixed refl is other);
  number = λ other. absurd (no_sort is_fixed _ sort sorts.Number fixed refl is other);
  decimal = λ other. absurd (no_sort is_fixed _ sort sorts.Decimal fixed refl is other);
  quoted = λ other. absurd (no_sort is_fixed _ sort sorts.Quoted fixed refl is other);
}

-- ---- values

inside_once : (one other : List ℕ) → 34 ∷ (one ++ 34 ∷ []) ≡ 34 ∷ (other ++ 34 ∷ []) → one ≡ other
inside_once one other same = let tails : one ++ 34 ∷ [] ≡ other ++ 34 ∷ [] = cc in append_cancel_right one other (34 ∷ []) tails

fine_inside : (bytes kept : List ℕ) → IsString bytes → bytes ≡ 34 ∷ (kept ++ 34 ∷ []) → AllPassing is_quotable kept
fine_inside bytes kept string keeps = subst (AllPassing is_quotable) (inside_once string.inside kept (sym string.parts ∙ keeps)) string.quotable

-- ---- symbols

fine_kind : (kind : LexKind) (bytes : List ℕ) (symbol : PlainSymbol) → IsSpelled kind bytes → IsInRange (Some kind) bytes → symbol.sort ≡ sort_of kind bytes → KeepsBytes kind bytes symbol.bytes
    → HasValue kind bytes symbol.value → IsFine symbol
fine_kind kinds.Word bytes symbol spelled range sort keeps value = record {
  named = λ is. (subst IsWord (sym keeps) spelled, ap (λ (b : List ℕ). word_sort (reserved_of b)) keeps ∙ (sym sort ∙ is));
  number = λ is. absurd (no_sort is_of_word _ (word_sort (reserved_of bytes)) sorts.Number (word_sorts (reserved_of bytes)) refl sort is);
  decimal = λ is. absurd (no_sort is_of_word _ (word_sort (reserved_of bytes)) sorts.Decimal (word_sorts (reserved_of bytes)) refl sort is);
  quoted = λ is. absurd (no_sort is_of_word _ (word_sort (reserved_of bytes)) sorts.Quoted (word_sorts (reserved_of bytes)) refl sort is);
}
fine_kind kinds.Number bytes symbol spelled range sort keeps value = record {
  named = λ is. let no : sorts.Number ≡ sorts.Name = sym sort ∙ is in absurd cc;
  number = λ is. subst IsNumberInRange (number_once bytes range.0 symbol.value range.1 value) range.2;
  decimal = λ is. let no : sorts.Number ≡ sorts.Decimal = sym sort ∙ is in absurd cc;
  quoted = λ is. let no : sorts.Number ≡ sorts.Quoted = sym sort ∙ is in absurd cc;
}
fine_kind kinds.Decimal bytes symbol spelled range sort keeps value = record {
  named = λ is. let no : sorts.Decimal ≡ sorts.Name = sym sort ∙ is in absurd cc;
  number = λ is. let no : sorts.Decimal ≡ sorts.Number = sym sort ∙ is in absurd cc;
  decimal = λ is. subst IsNumberInRange (decimal_once bytes range.0 symbol.value range.1 value) range.2;
  quoted = λ is. let no : sorts.Decimal ≡ sorts.Quoted = sym sort ∙ is in absurd cc;
}
fine_kind kinds.Str bytes symbol spelled range sort keeps value = record {
  named = λ is. let no : sorts.Quoted ≡ sorts.Name = sym sort ∙ is in absurd cc;
  number = λ is. let no : sorts.Quoted ≡ sorts.Number = sym sort ∙ is in absurd cc;
  decimal = λ is. let no : sorts.Quoted ≡ sorts.Decimal = sym sort ∙ is in absurd cc;
  quoted = λ is. fine_inside bytes symbol.bytes spelled keeps;
}
fine_kind kinds.Include bytes symbol spelled range sort keeps value = fine_fixed symbol _ refl sort
fine_kind kinds.BraceOpen bytes symbol spelled range sort keeps value = fine_fixed symbol _ refl sort
fine_kind kinds.BraceClose bytes symbol spelled range sort keeps value = fine_fixed symbol _ refl sort
fine_kind kinds.ParenOpen bytes symbol spelled range sort keeps value = fine_fixed symbol _ refl sort
fine_kind kinds.ParenClose bytes symbol spelled range sort keeps value = fine_fixed symbol _ refl sort
fine_kind kinds.BracketOpen bytes symbol spelled range sort keeps value = fine_fixed symbol _ refl sort
fine_kind kinds.BracketClose bytes symbol spelled range sort keeps value = fine_fixed symbol _ refl sort
fine_kind kinds.Semicolon bytes symbol spelled range sort keeps value = fine_fixed symbol _ refl sort
fine_kind kinds.Comma bytes symbol spelled range sort keeps value = fine_fixed symbol _ refl sort
fine_kind kinds.Point bytes symbol spelled range sort keeps value = fine_fixed symbol _ refl sort
fine_kind kinds.Assign bytes symbol spelled range sort keeps value = fine_fixed symbol _ refl sort
fine_kind kinds.Equal bytes symbol spelled range sort keeps value = fine_fixed symbol _ refl sort
fine_kind kinds.NotEqual bytes symbol spelled range sort keeps value = fine_fixed symbol _ refl sort
fine_kind kinds.DoubleColon bytes symbol spelled range sort keeps value = fine_fixed symbol _ refl sort

pub symbols_fine : (text : List ℕ) (from : ℕ) (lexemes : List Lexeme) (symbols : List PlainSymbol) → AreLexemesOf text from lexemes → AreSymbols text lexemes symbols → AreFine symbols
symbols_fine text from [] [] lie are = tt
symbols_fine text from [] (symbol ∷ symbols) lie are = absurd are
symbols_fine text from (lexeme ∷ lexemes) [] lie are = absurd are
symbols_fine text from (lexeme ∷ lexemes) (symbol ∷ symbols) lie are = (
  fine_kind lexeme.kind (bytes_of text lexeme) symbol lie.1.spelled lie.1.in_range are.0.sort are.0.bytes are.0.value,
  symbols_fine text (lexeme.at + lexeme.len) lexemes symbols lie.2 are.1,
)
