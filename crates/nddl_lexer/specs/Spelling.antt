-- How lexemes, blanks and comments are spelled, and the values of numbers.
use Rattle.std.specs.Prelude.{◌≡◌, ℕ, ◌+◌, ◌*◌, ◌-◌, ◌^◌, ◌<◌, ◌≤◌, ℤ}
use Rattle.std.specs.Prelude.{pos, negsuc, ◌≤ℤ◌, ◌⊎◌, ◌==◌, if◌then◌else◌, Option}
use Rattle.std.specs.Prelude.{Some, None, List, [], ◌∷◌, ◌++◌, length, slice_index, IsTrue, codes}
use Rattle.std.proofs.Common.{neg_ℤ}
use Rattle.std.specs.Str.Parse.{digits_value}
use Rattle.eu_name.specs.Word.{IsWord}
use Rattle.nddl_lexer.specs.declared.kinds.LexKind.{LexKind}
use Rattle.nddl_lexer.specs.declared.kinds.LexKind.TheVariants.{Word, Number, Decimal, Str, Include, BraceOpen, BraceClose}
use Rattle.nddl_lexer.specs.declared.kinds.LexKind.TheVariants.{ParenOpen, ParenClose, BracketOpen, BracketClose, Semicolon}
use Rattle.nddl_lexer.specs.declared.kinds.LexKind.TheVariants.{Comma, Point, Assign, Equal, NotEqual, DoubleColon}
use Rattle.nddl_lexer.specs.Bytes.{is_blank, is_quotable, is_in_line, AllPassing, AreDigits, unsigned}

-- digits or `inf`, with a sign directly before them or none
abbrev pub IsNumber : List ℕ → Type 0
IsNumber bytes = AreDigits (unsigned bytes) ⊎ (unsigned bytes ≡ codes "inf")

-- digits before a point and digits after it
abbrev pub AreParts : List ℕ → List ℕ → List ℕ → Type 0
AreParts bytes whole fraction = (bytes ≡ whole ++ 46 ∷ fraction) × AreDigits whole × AreDigits fraction

-- digits, a point and digits, with a sign directly before them or none
pub record IsDecimal (bytes : List ℕ) : Type 0 where
  pub whole : List ℕ
  pub fraction : List ℕ
  pub parts : AreParts (unsigned bytes) whole fraction

-- a quote, bytes that are neither quotes nor line feeds, and a quote
pub record IsString (bytes : List ℕ) : Type 0 where
  pub inside : List ℕ
  pub parts : bytes ≡ 34 ∷ (inside ++ 34 ∷ [])
  pub quotable : AllPassing is_quotable inside

-- the bytes spell a lexeme of this kind
abbrev pub IsSpelled : LexKind → List ℕ → Type 0
IsSpelled Word bytes = IsWord bytes
IsSpelled Number bytes = IsNumber bytes
IsSpelled Decimal bytes = IsDecimal bytes
IsSpelled Str bytes = IsString bytes
IsSpelled Include bytes = bytes ≡ codes "#include"
IsSpelled BraceOpen bytes = bytes ≡ codes "{"
IsSpelled BraceClose bytes = bytes ≡ codes "}"
IsSpelled ParenOpen bytes = bytes ≡ codes "("
IsSpelled ParenClose bytes = bytes ≡ codes ")"
IsSpelled BracketOpen bytes = bytes ≡ codes "["
IsSpelled BracketClose bytes = bytes ≡ codes "]"
IsSpelled Semicolon bytes = bytes ≡ codes ";"
IsSpelled Comma bytes = bytes ≡ codes ","
IsSpelled Point bytes = bytes ≡ codes "."
IsSpelled Assign bytes = bytes ≡ codes "="
IsSpelled Equal bytes = bytes ≡ codes "=="
IsSpelled NotEqual bytes = bytes ≡ codes "!="
IsSpelled DoubleColon bytes = bytes ≡ codes "::"

-- `//` and what follows it on its line
pub record IsLineComment (bytes : List ℕ) : Type 0 where
  pub inside : List ℕ
  pub parts : bytes ≡ codes "//" ++ inside
  pub one_line : AllPassing is_in_line inside

-- `*/` stands at the place
abbrev pub Closes : List ℕ → ℕ → Type 0
Closes bytes place = (slice_index bytes place ≡ 42) × (slice_index bytes (place + 1) ≡ 47)

-- `/*` up to the first `*/` after it
pub record IsBlockComment (bytes : List ℕ) : Type 0 where
  pub inside : List ℕ
  pub parts : bytes ≡ codes "/*" ++ (inside ++ codes "*/")
  pub first : (place : ℕ) → place < length inside → Closes (inside ++ codes "*/") place → ⊥

-- one blank, or one comment
abbrev pub IsGap : List ℕ → Type 0
IsGap bytes =
    ((blank : ℕ) × IsTrue (is_blank blank) × (bytes ≡ blank ∷ [])) ⊎ (IsLineComment bytes ⊎ IsBlockComment bytes)

-- the bytes are a lexeme of this kind or, for none, a blank or a comment
abbrev pub IsPiece : Option LexKind → List ℕ → Type 0
IsPiece None bytes = IsGap bytes
IsPiece (Some kind) bytes = IsSpelled kind bytes

-- ---- values

-- the number of this size with the sign at the front of the bytes
abbrev pub with_sign : List ℕ → ℕ → ℤ
with_sign [] size = pos size
with_sign (byte ∷ bytes) size = if byte == 45 then neg_ℤ (pos size) else pos size

-- the bytes spell this whole number; an infinity is the last number on its side
abbrev pub SpellsNumber : List ℕ → ℤ → Type 0
SpellsNumber bytes value =
    (AreDigits (unsigned bytes) × (value ≡ with_sign bytes (digits_value 10 (unsigned bytes))))
    ⊎ ((unsigned bytes ≡ codes "inf") × (value ≡ with_sign bytes 1000000))

-- the thousandths of digits before and after a point
abbrev pub thousandths_of : List ℕ → List ℕ → ℕ
thousandths_of whole fraction = digits_value 10 whole * 1000 + digits_value 10 fraction * 10 ^ (3 - length fraction)

-- the bytes spell a decimal of this many thousandths; as written it has three digits after the point at the most
pub record SpellsDecimal (bytes : List ℕ) (thousandths : ℤ) : Type 0 where
  pub whole : List ℕ
  pub fraction : List ℕ
  pub parts : AreParts (unsigned bytes) whole fraction
  pub short : length fraction ≤ 3
  pub value : thousandths ≡ with_sign bytes (thousandths_of whole fraction)

-- from -1,000,000 to 1,000,000: whole numbers, and for decimals thousandths
abbrev pub IsNumberInRange : ℤ → Type 0
IsNumberInRange value = (negsuc 999999 ≤ℤ value) × (value ≤ℤ pos 1000000)

-- where the bytes are a number or a decimal, its value is one that the language has
abbrev pub IsInRange : Option LexKind → List ℕ → Type 0
IsInRange (Some Number) bytes = (value : ℤ) × SpellsNumber bytes value × IsNumberInRange value
IsInRange (Some Decimal) bytes = (thousandths : ℤ) × SpellsDecimal bytes thousandths × IsNumberInRange thousandths
IsInRange kind bytes = Unit {0}
