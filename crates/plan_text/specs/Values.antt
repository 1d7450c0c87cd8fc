-- How values are written, by kind.
use Rattle.std.specs.Prelude.{◌≡◌, ℕ, suc, ◌+◌, ◌/◌, ◌%◌, ◌<◌, ◌⊎◌, ℤ, pos, negsuc, List, [], ◌∷◌, ◌++◌, length, slice_get}
use Rattle.std.specs.Prelude.{slice_index, Some, All, IsTrue, codes}
use Rattle.std.specs.Char.{is_ascii_digit}
use Rattle.std.specs.Fmt.{decimal, signed_decimal}
use Rattle.domain_core.specs.Domain.{IsValue}
use Rattle.model_core.specs.declared.class.Enum.{Enum}
use Rattle.model_core.specs.declared.class.Object.{Object}
use Rattle.model_core.specs.declared.model.Model.{Model}
use Rattle.model_core.specs.declared.variable.ValueKind.{ValueKind}
use Rattle.model_core.specs.declared.variable.ValueKind.TheVariants as kinds
use Rattle.model_core.specs.Kinds.{IsObject}
use Rattle.model_core.specs.Naming.{IsPath}
use Rattle.plan_text.specs.declared.fault.Wrong.{Wrong}
use Rattle.plan_text.specs.declared.fault.Wrong.TheVariants.{Syntax, Twice, Unknown, Memory}
use Rattle.plan_text.specs.Found.{Found, OneWord}

-- decimal digits, with no zero before others
pub record IsPlainNumber (digits : List ℕ) : Type 0 where
  pub some : 0 < length digits
  pub all : All (λ byte. IsTrue (is_ascii_digit byte)) digits
  pub no_zero : 1 < length digits → slice_index digits 0 ≡ 48 → ⊥

-- such digits, or a minus sign before such digits other than 0 alone
abbrev pub IsNumberWord : List ℕ → Type 0
IsNumberWord word =
    IsPlainNumber word
    ⊎ ((digits : List ℕ) × ((word ≡ codes "-" ++ digits) × IsPlainNumber digits × (digits ≡ codes "0" → ⊥)))

-- such digits, a point and three more digits
pub record IsPlainDecimal (word : List ℕ) : Type 0 where
  pub whole : List ℕ
  pub digits : List ℕ
  pub is : word ≡ whole ++ (codes "." ++ digits)
  pub number : IsPlainNumber whole
  pub three : length digits ≡ 3
  pub all : All (λ byte. IsTrue (is_ascii_digit byte)) digits

-- the same, or a minus sign before the same other than 0.000
abbrev pub IsDecimalWord : List ℕ → Type 0
IsDecimalWord word =
    IsPlainDecimal word
    ⊎ ((digits : List ℕ) × ((word ≡ codes "-" ++ digits) × IsPlainDecimal digits × (digits ≡ codes "0.000" → ⊥)))

abbrev pub IsTruthWord : List ℕ → Type 0
IsTruthWord word = (word ≡ codes "true") ⊎ (word ≡ codes "false")

-- the word has the form of a value: that of a number, of a decimal, of a truth, or of a member's or an object's name
abbrev pub IsValueWord : List ℕ → Type 0
IsValueWord word = IsNumberWord word ⊎ (IsDecimalWord word ⊎ (IsTruthWord word ⊎ IsPath word))

-- the last three digits of the number
abbrev pub three_digits : ℕ → List ℕ
three_digits n = (48 + n / 100 % 10) ∷ (48 + n / 10 % 10) ∷ (48 + n % 10) ∷ []

-- so many thousandths: their whole part, a point and three digits
abbrev pub thousandths_text : ℕ → List ℕ
thousandths_text n = decimal (n / 1000) ++ (codes "." ++ three_digits n)

-- the value as a decimal, of which it counts the thousandths
abbrev pub decimal_text : ℤ → List ℕ
decimal_text (pos n) = thousandths_text n
decimal_text (negsuc n) = codes "-" ++ thousandths_text (suc n)

-- the value is the place of the member of this name
pub record IsMemberNamed (model : Model) (number : ℕ) (value : ℤ) (word : List ℕ) : Type 0 where
  pub found : Enum
  pub is_enum : slice_get model.enums number ≡ Some found
  pub place : ℕ
  pub is_place : value ≡ pos place
  pub is_member : slice_get found.members place ≡ Some word

-- the word is how the value of the kind is written
abbrev pub IsValueText : Model → ValueKind → ℤ → List ℕ → Type 0
IsValueText model kinds.Int value word = IsValue value × (word ≡ signed_decimal value)
IsValueText model kinds.Float value word = IsValue value × (word ≡ decimal_text value)
IsValueText model kinds.Bool value word =
    ((value ≡ pos 0) × (word ≡ codes "false")) ⊎ ((value ≡ pos 1) × (word ≡ codes "true"))
IsValueText model (kinds.Enum number) value word = IsMemberNamed model number value word
IsValueText model kinds.Object value word = (object : Object) × (IsObject model value object × (object.name ≡ word))

-- how a word is wrong where a value of the kind is due: it hasn't the form of any value, or it is none of the kind
abbrev pub IsNoValueText : Model → ValueKind → Wrong → List ℕ → Type 0
IsNoValueText model kind Syntax word = IsValueWord word → ⊥
IsNoValueText model kind Twice word = ⊥
IsNoValueText model kind Unknown word = IsValueWord word × ((value : ℤ) → IsValueText model kind value word → ⊥)
IsNoValueText model kind Memory word = ⊥

-- a value of the kind, behind a space
abbrev pub OneValue : Model → ValueKind → List ℕ → Found ℤ → Type 0
OneValue model kind = OneWord (codes " ") (IsValueText model kind) (IsNoValueText model kind)
