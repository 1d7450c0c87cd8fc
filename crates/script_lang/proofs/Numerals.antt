-- What `parse` reads of a number.
use Rattle.std.proofs.Common.{◌≡◌, ℕ, ◌<◌, Bool, true, false, eqb, List, [], ◌∷◌, ℤ, pos, negsuc, All, IsTrue, FitsSigned, w32, refl, arith}
use Rattle.std.proofs.lemmas.Bool.Decides.{nat_tests}
use Rattle.std.proofs.lemmas.Int.{ints}
use Rattle.std.proofs.lemmas.List.Elements.{All-head, All-tail}
use Rattle.std.specs.Char.{is_ascii_digit, digit_value}
use Rattle.std.specs.Str.Parse.{AllDigits, IsNumeral, without_leading_sign, signed_digits_value}
use Rattle.domain_core.specs.Domain.{IsValue}
use Rattle.script_lang.specs.Number.{IsSignedNumber, signed_value, without_minus}

abbrev IsDigit : ℕ → Type 0
IsDigit byte = IsTrue (is_ascii_digit byte)

digit_below : (byte : ℕ) → IsDigit byte → digit_value byte < 10
digit_below byte is = grind (arith, nat_tests)

all_digits : (digits : List ℕ) → All (λ byte. IsTrue (is_ascii_digit byte)) digits → AllDigits 10 digits
all_digits [] are = tt
all_digits (digit ∷ digits) are = (digit_below digit (All-head IsDigit digit digits are), all_digits digits (All-tail IsDigit digit digits are))

-- a plus sign is no digit
no_plus : (byte : ℕ) → IsDigit byte → eqb byte 43 ≡ false
no_plus byte is = grind (arith, nat_tests)

unsigned_at : (byte : ℕ) (rest : List ℕ) (v : Bool) → eqb byte 45 ≡ v → IsSignedNumber (byte ∷ rest) → without_leading_sign (byte ∷ rest) ≡ without_minus (byte ∷ rest)
unsigned_at byte rest true e is = simp e
unsigned_at byte rest false e is = let digits = rw e at is in let plus : eqb byte 43 ≡ false = no_plus byte (All-head IsDigit byte rest digits.1) in simp (e, plus)

-- the sign of a number is a minus or none
unsigned : (word : List ℕ) → IsSignedNumber word → without_leading_sign word ≡ without_minus word
unsigned [] is = absurd (omega arith)
unsigned (byte ∷ rest) is = unsigned_at byte rest (eqb byte 45) refl is

pub numeral : (word : List ℕ) → IsSignedNumber word → IsNumeral 10 (without_leading_sign word)
numeral word is = rw (unsigned word is) (is.0, all_digits (without_minus word) is.1)

signed_at : (byte : ℕ) (rest : List ℕ) (v : Bool) → eqb byte 45 ≡ v → IsSignedNumber (byte ∷ rest) → signed_digits_value 10 (byte ∷ rest) ≡ signed_value (byte ∷ rest)
signed_at byte rest true e is = simp e
signed_at byte rest false e is = let digits = rw e at is in let plus : eqb byte 43 ≡ false = no_plus byte (All-head IsDigit byte rest digits.1) in simp (e, plus)

pub signed : (word : List ℕ) → IsSignedNumber word → signed_digits_value 10 word ≡ signed_value word
signed [] is = refl
signed (byte ∷ rest) is = signed_at byte rest (eqb byte 45) refl is

-- a value fits
pub value_fits : (value : ℤ) → IsValue value → FitsSigned w32 value
value_fits (pos n) is = record { sfits = omega (arith, ints) }
value_fits (negsuc n) is = record { sfits = omega (arith, ints) }
