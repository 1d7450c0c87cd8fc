-- Words in their canonical spelling, and lines of them.
use Rattle.std.specs.Prelude.{ℕ, suc, ◌+◌, ◌/◌, ◌%◌, ℤ, pos, negsuc, List, [], ◌∷◌, ◌++◌, codes}
use Rattle.std.specs.List.{join_by, flat_map}
use Rattle.std.specs.Fmt.{decimal, signed_decimal}
use Rattle.eu_name.specs.Word.{reserved_word}
use Rattle.nddl_grammar.specs.declared.sort.Sort.{Sort}
use Rattle.nddl_grammar.specs.declared.sort.Sort.TheVariants as sorts

-- what stands between two blanks: a reserved word or a mark, by its sort; a name; a number; a decimal, by its
-- thousandths; bytes between quotes
pub data Word : Type 0 where
  Fixed : Sort → Word
  Named : List ℕ → Word
  Number : ℤ → Word
  Decimal : ℤ → Word
  Quoted : List ℕ → Word

-- how a reserved word or a mark is spelled; names, values and quoted bytes have no one spelling
abbrev pub fixed_text : Sort → List ℕ
fixed_text sorts.Name = []
fixed_text (sorts.Word word) = reserved_word word
fixed_text sorts.Number = []
fixed_text sorts.Decimal = []
fixed_text sorts.Quoted = []
fixed_text sorts.Include = codes "#include"
fixed_text sorts.BraceOpen = codes "{"
fixed_text sorts.BraceClose = codes "}"
fixed_text sorts.ParenOpen = codes "("
fixed_text sorts.ParenClose = codes ")"
fixed_text sorts.BracketOpen = codes "["
fixed_text sorts.BracketClose = codes "]"
fixed_text sorts.Semicolon = codes ";"
fixed_text sorts.Comma = codes ","
fixed_text sorts.Point = codes "."
fixed_text sorts.Assign = codes "="
fixed_text sorts.Equal = codes "=="
fixed_text sorts.NotEqual = codes "!="
fixed_text sorts.DoubleColon = codes "::"

-- a number below 1000 in three digits
abbrev pub three_digits : ℕ → List ℕ
three_digits n = (48 + n / 100) ∷ (48 + n / 10 % 10) ∷ (48 + n % 10) ∷ []

-- so many thousandths: the whole, a point, and three digits
abbrev pub size_text : ℕ → List ℕ
size_text thousandths = decimal (thousandths / 1000) ++ 46 ∷ three_digits (thousandths % 1000)

-- the same, with a sign where there are less than none
abbrev pub decimal_text : ℤ → List ℕ
decimal_text (pos size) = size_text size
decimal_text (negsuc less) = 45 ∷ size_text (suc less)

-- the canonical spelling of a word
abbrev pub text_of : Word → List ℕ
text_of (Fixed sort) = fixed_text sort
text_of (Named bytes) = bytes
text_of (Number value) = signed_decimal value
text_of (Decimal thousandths) = decimal_text thousandths
text_of (Quoted bytes) = 34 ∷ (bytes ++ 34 ∷ [])

-- the words with single spaces between them, and a line feed
unfoldable pub line_of : List Word → List ℕ
line_of words = join_by text_of (codes " ") words ++ codes "\n"

-- the words with a space behind each: a line that isn't ended
unfoldable pub spaced : List Word → List ℕ
spaced words = flat_map (λ word. text_of word ++ codes " ") words
