-- The spelling of a number is read as that number.
use Rattle.std.proofs.Common.{◌≡◌, ℕ, suc, ◌+◌, ◌*◌, ◌/◌, ◌%◌, ◌^◌, ◌<◌, ◌≤◌, ℤ, pos, negsuc, true, false, eqb, inl, List, [], ◌∷◌, ◌++◌, refl, sym, ap, subst, ◌∙◌, arith}
use Rattle.std.proofs.Common.{neg_ℤ}
use Rattle.std.specs.Char.{is_ascii_digit, digit_value}
use Rattle.std.specs.Fmt.{decimal, signed_decimal}
use Rattle.std.specs.Str.Parse.{digits_value}
use Rattle.std.proofs.lemmas.Bool.{cond-false}
use Rattle.std.proofs.lemmas.Bool.Decides.{nat_tests}
use Rattle.std.proofs.lemmas.Fmt.{decimal_nonempty, digits_decimal, digits_value-decimal}
use Rattle.std.proofs.lemmas.Int.{ints}
use Rattle.std.proofs.lemmas.Str.{digit_value_digit}
use Rattle.std.proofs.lemmas.Str.Parse.{IsNumeralModel, IsDigitsTest, numerals_by_value}
use Rattle.nddl_lexer.specs.Bytes.{AllPassing, AreDigits, unsigned}
use Rattle.nddl_lexer.specs.Spelling.{with_sign, AreParts, IsNumberInRange, SpellsNumber, SpellsDecimal, thousandths_of}
use Rattle.nddl_lexer.proofs.Classes.{digit_not_sign}
use Rattle.nddl_print.specs.Words.{three_digits, size_text, decimal_text}

tells : IsDigitsTest (AllPassing is_ascii_digit)
tells = record {
  empty = tt;
  parts = λ c cs are. (grind (arith, nat_tests), are.1);
  more = λ c cs is are. (grind (arith, nat_tests), are);
}

own : IsNumeralModel (AllPassing is_ascii_digit) (digits_value 10)
own = numerals_by_value (AllPassing is_ascii_digit) tells

decimal_digits : (n : ℕ) → n < 2 ^ 64 → AreDigits (decimal n)
decimal_digits n small = (decimal_nonempty n small, digits_decimal own n small)

-- ---- signs

digit_not_minus : (byte : ℕ) → is_ascii_digit byte ≡ true → eqb byte 45 ≡ false
digit_not_minus byte digit = grind (arith, nat_tests)

-- what begins with digits has no sign
unsigned_front : (digits rest : List ℕ) → AreDigits digits → unsigned (digits ++ rest) ≡ digits ++ rest
unsigned_front [] rest are = absurd (omega (arith, are.0))
unsigned_front (byte ∷ digits) rest are = cond-false _ _ _ (digit_not_sign byte are.1.0)

unsigned_digits : (digits : List ℕ) → AreDigits digits → unsigned digits ≡ digits
unsigned_digits [] are = absurd (omega (arith, are.0))
unsigned_digits (byte ∷ digits) are = cond-false _ _ _ (digit_not_sign byte are.1.0)

plain_front : (digits rest : List ℕ) (size : ℕ) → AreDigits digits → with_sign (digits ++ rest) size ≡ pos size
plain_front [] rest size are = absurd (omega (arith, are.0))
plain_front (byte ∷ digits) rest size are = cond-false _ _ _ (digit_not_minus byte are.1.0)

plain_digits : (digits : List ℕ) (size : ℕ) → AreDigits digits → with_sign digits size ≡ pos size
plain_digits [] size are = absurd (omega (arith, are.0))
plain_digits (byte ∷ digits) size are = cond-false _ _ _ (digit_not_minus byte are.1.0)

-- ---- numbers

pub spells_number : (value : ℤ) → IsNumberInRange value → SpellsNumber (signed_decimal value) value
spells_number (pos n) is =
    let small : n < 2 ^ 64 = omega (arith, ints, is.1) in
    let digits = decimal_digits n small in
    let bare = unsigned_digits (decimal n) digits in
    inl (
      subst AreDigits (sym bare) digits,
      sym (plain_digits (decimal n) (digits_value 10 (unsigned (decimal n))) digits ∙ ap pos (ap (digits_value 10) bare ∙ digits_value-decimal own n small)),
    )
spells_number (negsuc n) is =
    let small : suc n < 2 ^ 64 = omega (arith, ints, is.0) in
    inl (decimal_digits (suc n) small, sym (ap (λ size. neg_ℤ (pos size)) (digits_value-decimal own (suc n) small)))

-- ---- decimals

digit_passes : (d : ℕ) → d < 10 → is_ascii_digit (48 + d) ≡ true
digit_passes d small = grind (arith, nat_tests)

digit_is : (d : ℕ) → d < 10 → digit_value (48 + d) ≡ d
digit_is d small = let value = digit_value_digit (48 + d) (omega arith, omega arith) in omega arith

three_are : (n : ℕ) → n < 1000 → AreDigits (three_digits n)
three_are n small = (omega arith, (digit_passes (n / 100) (omega arith), (digit_passes (n / 10 % 10) (omega arith), (digit_passes (n % 10) (omega arith), tt))))

three_value : (n : ℕ) → n < 1000 → digits_value 10 (three_digits n) ≡ n
three_value n small =
    let a = digit_is (n / 100) (omega arith) in
    let b = digit_is (n / 10 % 10) (omega arith) in
    let c = digit_is (n % 10) (omega arith) in
    let sum : digits_value 10 (three_digits n) ≡ ((0 * 10 + digit_value (48 + n / 100)) * 10 + digit_value (48 + n / 10 % 10)) * 10 + digit_value (48 + n % 10) = refl in
    omega arith

size_is : (n : ℕ) → n ≤ 1000000 → thousandths_of (decimal (n / 1000)) (three_digits (n % 1000)) ≡ n
size_is n small =
    let whole = digits_value-decimal own (n / 1000) (omega arith) in
    let fraction = three_value (n % 1000) (omega arith) in
    let sum : thousandths_of (decimal (n / 1000)) (three_digits (n % 1000)) ≡ digits_value 10 (decimal (n / 1000)) * 1000 + digits_value 10 (three_digits (n % 1000)) * 1 = refl in
    omega arith

-- digits, a point and three digits
size_parts : (n : ℕ) → n ≤ 1000000 → AreParts (size_text n) (decimal (n / 1000)) (three_digits (n % 1000))
size_parts n small = (refl, decimal_digits (n / 1000) (omega arith), three_are (n % 1000) (omega arith))

size_unsigned : (n : ℕ) → n ≤ 1000000 → unsigned (size_text n) ≡ size_text n
size_unsigned n small = unsigned_front (decimal (n / 1000)) (46 ∷ three_digits (n % 1000)) (decimal_digits (n / 1000) (omega arith))

pub spells_decimal : (value : ℤ) → IsNumberInRange value → SpellsDecimal (decimal_text value) value
spells_decimal (pos n) is =
    let small : n ≤ 1000000 = omega (arith, ints, is.1) in
    record {
      whole = decimal (n / 1000);
      fraction = three_digits (n % 1000);
      parts = subst (λ bytes. AreParts bytes (decimal (n / 1000)) (three_digits (n % 1000))) (sym (size_unsigned n small)) (size_parts n small);
      short = omega arith;
      value = sym (plain_front (decimal (n / 1000)) (46 ∷ three_digits (n % 1000)) _ (decimal_digits (n / 1000) (omega arith)) ∙ ap pos (size_is n small));
    }
spells_decimal (negsuc n) is =
    let small : suc n ≤ 1000000 = omega (arith, ints, is.0) in
    record {
      whole = decimal (suc n / 1000);
      fraction = three_digits (suc n % 1000);
      parts = size_parts (suc n) small;
      short = omega arith;
      value = sym (ap (λ size. neg_ℤ (pos size)) (size_is (suc n) small));
    }
