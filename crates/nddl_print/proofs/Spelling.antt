-- Each word's spelling is one lexeme, and its symbol is the word.
use Rattle.std.proofs.Common.{◌≡◌, ℕ, ℤ, pos, Bool, true, false, ◌&&◌, not, IsTrue, Some, inl, inr, List, [], ◌∷◌, codes, refl, ap}
use Rattle.std.specs.Str.{bytes_eq}
use Rattle.std.proofs.lemmas.Bool.{and_parts, both_ways}
use Rattle.std.proofs.lemmas.Slice.Eq.{bytes_eq-Decides}
use Rattle.std.proofs.lemmas.List.Elements.{All-from_recursion}
use Rattle.std.specs.Fmt.{signed_decimal}
use Rattle.eu_name.specs.Word.{is_word_start, is_word_byte, reserved_of, IsWord}
use Rattle.eu_name.proofs.Reserved.{reserved_back}
use Rattle.nddl_lexer.specs.declared.kinds.LexKind.{LexKind}
use Rattle.nddl_lexer.specs.declared.kinds.LexKind.TheVariants as kinds
use Rattle.nddl_lexer.specs.Bytes.{AllPassing}
use Rattle.nddl_lexer.specs.Spelling.{IsSpelled, IsInRange, IsNumber, SpellsNumber}
use Rattle.nddl_grammar.specs.declared.sort.Sort.{Sort}
use Rattle.eu_name.specs.declared.word.Reserved.TheVariants as keywords
use Rattle.nddl_grammar.specs.declared.sort.Sort.TheVariants as sorts
use Rattle.nddl_parser.specs.Symbols.{word_sort, sort_of, KeepsBytes, HasValue}
use Rattle.nddl_print.specs.Words.{Word, Fixed, Named, Number, Decimal, Quoted, fixed_text, decimal_text, text_of}
use Rattle.nddl_print.proofs.Saying.{is_fixed, IsSound, Says}
use Rattle.nddl_print.proofs.Digits.{spells_number, spells_decimal}

-- what the lexeme of a word's text is, and its symbol
pub record Spells (word : Word) : Type 0 where
  pub kind : LexKind
  pub spelled : IsSpelled kind (text_of word)
  pub in_range : IsInRange (Some kind) (text_of word)
  pub kept : List ℕ
  pub value : ℤ
  pub keeps : KeepsBytes kind (text_of word) kept
  pub valued : HasValue kind (text_of word) value
  pub says : (at : ℕ) → Says word (record { sort = sort_of kind (text_of word); bytes = kept; value = value; at = at })

-- whether each byte passes
abbrev are_all : (ℕ → Bool) → List ℕ → Bool
are_all test [] = true
are_all test (byte ∷ bytes) = test byte && are_all test bytes

all_passing : (test : ℕ → Bool) (bytes : List ℕ) → are_all test bytes ≡ true → AllPassing test bytes
all_passing test [] are = tt
all_passing test (byte ∷ bytes) are = let parts = and_parts (test byte) (are_all test bytes) are in (parts.0, all_passing test bytes parts.1)

-- whether the bytes are a word
abbrev is_word : List ℕ → Bool
is_word [] = false
is_word (byte ∷ bytes) = is_word_start byte && (are_all is_word_byte bytes && not (bytes_eq (byte ∷ bytes) (codes "inf")))

is_other : (flag : Bool) → not flag ≡ true → flag ≡ false
is_other true is = absurd cc
is_other false is = refl

word_is : (bytes : List ℕ) → is_word bytes ≡ true → IsWord bytes
word_is [] is = absurd cc
word_is (byte ∷ bytes) is =
    let parts = and_parts (is_word_start byte) _ is in
    let rest = and_parts (are_all is_word_byte bytes) _ parts.1 in (
      parts.0,
      All-from_recursion (λ b. IsTrue (is_word_byte b)) bytes (all_passing is_word_byte bytes rest.0),
      λ same. both_ways _ (is_other _ rest.1) ((bytes_eq-Decides (byte ∷ bytes) (codes "inf")).1 same),
    )

reserved : (sort : Sort) → is_word (fixed_text sort) ≡ true → word_sort (reserved_of (fixed_text sort)) ≡ sort → Spells (Fixed sort)
reserved sort word is = record {
  kind = kinds.Word;
  spelled = word_is (fixed_text sort) word;
  in_range = tt;
  kept = fixed_text sort;
  value = pos 0;
  keeps = refl;
  valued = refl;
  says = λ at. is;
}

sign : (sort : Sort) (kind : LexKind) → IsSpelled kind (fixed_text sort) → IsInRange (Some kind) (fixed_text sort) → KeepsBytes kind (fixed_text sort) (fixed_text sort)
    → HasValue kind (fixed_text sort) (pos 0) → sort_of kind (fixed_text sort) ≡ sort → Spells (Fixed sort)
sign sort kind spelled range keeps valued is = record {
  kind = kind;
  spelled = spelled;
  in_range = range;
  kept = fixed_text sort;
  value = pos 0;
  keeps = keeps;
  valued = valued;
  says = λ at. is;
}

fixed_spells : (sort : Sort) → is_fixed sort ≡ true → Spells (Fixed sort)
fixed_spells sorts.Name is = absurd cc
fixed_spells (sorts.Word keywords.Class) is = reserved (sorts.Word keywords.Class) refl (ap word_sort (reserved_back keywords.Class))
fixed_spells (sorts.Word keywords.Predicate) is = reserved (sorts.Word keywords.Predicate) refl (ap word_sort (reserved_back keywords.Predicate))
fixed_spells (sorts.Word keywords.Enum) is = reserved (sorts.Word keywords.Enum) refl (ap word_sort (reserved_back keywords.Enum))
fixed_spells (sorts.Word keywords.Typedef) is = reserved (sorts.Word keywords.Typedef) refl (ap word_sort (reserved_back keywords.Typedef))
fixed_spells (sorts.Word keywords.Extends) is = reserved (sorts.Word keywords.Extends) refl (ap word_sort (reserved_back keywords.Extends))
fixed_spells (sorts.Word keywords.New) is = reserved (sorts.Word keywords.New) refl (ap word_sort (reserved_back keywords.New))
fixed_spells (sorts.Word keywords.If) is = reserved (sorts.Word keywords.If) refl (ap word_sort (reserved_back keywords.If))
fixed_spells (sorts.Word keywords.Else) is = reserved (sorts.Word keywords.Else) refl (ap word_sort (reserved_back keywords.Else))
fixed_spells (sorts.Word keywords.Foreach) is = reserved (sorts.Word keywords.Foreach) refl (ap word_sort (reserved_back keywords.Foreach))
fixed_spells (sorts.Word keywords.In) is = reserved (sorts.Word keywords.In) refl (ap word_sort (reserved_back keywords.In))
fixed_spells (sorts.Word keywords.Int) is = reserved (sorts.Word keywords.Int) refl (ap word_sort (reserved_back keywords.Int))
fixed_spells (sorts.Word keywords.Float) is = reserved (sorts.Word keywords.Float) refl (ap word_sort (reserved_back keywords.Float))
fixed_spells (sorts.Word keywords.Bool) is = reserved (sorts.Word keywords.Bool) refl (ap word_sort (reserved_back keywords.Bool))
fixed_spells (sorts.Word keywords.Str) is = reserved (sorts.Word keywords.Str) refl (ap word_sort (reserved_back keywords.Str))
fixed_spells (sorts.Word keywords.True) is = reserved (sorts.Word keywords.True) refl (ap word_sort (reserved_back keywords.True))
fixed_spells (sorts.Word keywords.False) is = reserved (sorts.Word keywords.False) refl (ap word_sort (reserved_back keywords.False))
fixed_spells (sorts.Word keywords.Super) is = reserved (sorts.Word keywords.Super) refl (ap word_sort (reserved_back keywords.Super))
fixed_spells sorts.Number is = absurd cc
fixed_spells sorts.Decimal is = absurd cc
fixed_spells sorts.Quoted is = absurd cc
fixed_spells sorts.Include is = sign sorts.Include kinds.Include refl tt refl refl refl
fixed_spells sorts.BraceOpen is = sign sorts.BraceOpen kinds.BraceOpen refl tt refl refl refl
fixed_spells sorts.BraceClose is = sign sorts.BraceClose kinds.BraceClose refl tt refl refl refl
fixed_spells sorts.ParenOpen is = sign sorts.ParenOpen kinds.ParenOpen refl tt refl refl refl
fixed_spells sorts.ParenClose is = sign sorts.ParenClose kinds.ParenClose refl tt refl refl refl
fixed_spells sorts.BracketOpen is = sign sorts.BracketOpen kinds.BracketOpen refl tt refl refl refl
fixed_spells sorts.BracketClose is = sign sorts.BracketClose kinds.BracketClose refl tt refl refl refl
fixed_spells sorts.Semicolon is = sign sorts.Semicolon kinds.Semicolon refl tt refl refl refl
fixed_spells sorts.Comma is = sign sorts.Comma kinds.Comma refl tt refl refl refl
fixed_spells sorts.Point is = sign sorts.Point kinds.Point refl tt refl refl refl
fixed_spells sorts.Assign is = sign sorts.Assign kinds.Assign refl tt refl refl refl
fixed_spells sorts.Equal is = sign sorts.Equal kinds.Equal refl tt refl refl refl
fixed_spells sorts.NotEqual is = sign sorts.NotEqual kinds.NotEqual refl tt refl refl refl
fixed_spells sorts.DoubleColon is = sign sorts.DoubleColon kinds.DoubleColon refl tt refl refl refl

is_number : (bytes : List ℕ) (value : ℤ) → SpellsNumber bytes value → IsNumber bytes
is_number bytes value (inl digits) = inl digits.0
is_number bytes value (inr infinity) = inr infinity.0

pub word_spells : (word : Word) → IsSound word → Spells word
word_spells (Fixed sort) sound = fixed_spells sort sound
word_spells (Named bytes) sound = record {
  kind = kinds.Word;
  spelled = sound.0;
  in_range = tt;
  kept = bytes;
  value = pos 0;
  keeps = refl;
  valued = refl;
  says = λ at. (sound.1, refl);
}
word_spells (Number value) sound = record {
  kind = kinds.Number;
  spelled = is_number (signed_decimal value) value (spells_number value sound);
  in_range = (value, spells_number value sound, sound);
  kept = signed_decimal value;
  value = value;
  keeps = refl;
  valued = spells_number value sound;
  says = λ at. (refl, refl);
}
word_spells (Decimal value) sound = record {
  kind = kinds.Decimal;
  spelled = let spells = spells_decimal value sound in record { whole = spells.whole; fraction = spells.fraction; parts = spells.parts };
  in_range = (value, spells_decimal value sound, sound);
  kept = decimal_text value;
  value = value;
  keeps = refl;
  valued = spells_decimal value sound;
  says = λ at. (refl, refl);
}
word_spells (Quoted bytes) sound = record {
  kind = kinds.Str;
  spelled = record { inside = bytes; parts = refl; quotable = sound };
  in_range = tt;
  kept = bytes;
  value = pos 0;
  keeps = refl;
  valued = refl;
  says = λ at. (refl, refl);
}
