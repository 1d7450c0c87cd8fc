-- What is written of numbers says them.
use Rattle.std.proofs.Common.{◌≡◌, ℕ, suc, ◌+◌, ◌*◌, ◌/◌, ◌%◌, ◌<◌, ◌^◌, true, false, eqb, ℤ, pos, negsuc, List, [], ◌∷◌, length, IsTrue, refl, sym, ◌∙◌, ap, inr, arith}
use Rattle.std.specs.Prelude.{neg_ℤ}
use Rattle.std.specs.Char.{is_ascii_digit, digit_value}
use Rattle.std.specs.Fmt.{decimal, signed_decimal}
use Rattle.std.specs.Str.Parse.{digits_value}
use Rattle.std.proofs.lemmas.Bool.Decides.{nat_tests}
use Rattle.std.proofs.lemmas.Fmt.{digits_decimal, digits_value-decimal, decimal_nonempty}
use Rattle.std.proofs.lemmas.Int.{ints}
use Rattle.std.proofs.lemmas.List.Elements.{All-from_recursion}
use Rattle.domain_core.specs.Domain.{IsValue}
use Rattle.eu_name.proofs.Fronts.{Passes}
use Rattle.eu_name.proofs.Numbers.{own}
use Rattle.plan_text.specs.Values.{three_digits, thousandths_text, decimal_text}
use Rattle.plan_text.proofs.Decimals.{three_pass}
use Rattle.script_lang.specs.Number.{IsSignedNumber, signed_value, without_minus, with_sign_of, IsFraction, HasDecimalParts, IsSignedDecimal, fraction_value, thousandths, SaysThousandths}

-- digits without a sign, which may have one put before them
record IsPlain (digits : List ℕ) : Type 0 where
  number : IsSignedNumber digits
  negative : IsSignedNumber (45 ∷ digits)
  value : signed_value digits ≡ pos (digits_value 10 digits)
  plain : without_minus digits ≡ digits
  unsigned : (amount : ℤ) → with_sign_of digits amount ≡ amount

no_minus : (byte : ℕ) → is_ascii_digit byte ≡ true → eqb byte 45 ≡ false
no_minus byte is = grind (arith, nat_tests)

plain_digits : (digits : List ℕ) → Passes is_ascii_digit digits → 0 < length digits → IsPlain digits
plain_digits [] passes some = absurd (omega arith)
plain_digits (first ∷ rest) passes some =
    let other = no_minus first passes.0 in
    let all = All-from_recursion (λ byte. IsTrue (is_ascii_digit byte)) (first ∷ rest) passes in
    record { number = rw other (some, all); negative = (some, all); value = rw other refl; plain = rw other refl; unsigned = λ amount. rw other refl }

plain_decimal : (n : ℕ) → n < 2 ^ 64 → IsPlain (decimal n)
plain_decimal n small = plain_digits (decimal n) (digits_decimal own n small) (decimal_nonempty n small)

-- ---- whole numbers

pub number_said : (value : ℤ) → IsValue value → IsSignedNumber (signed_decimal value) × (value ≡ signed_value (signed_decimal value))
number_said (pos n) is =
    let small : n < 2 ^ 64 = omega (arith, ints, is) in
    let plain = plain_decimal n small in
    (plain.number, sym (plain.value ∙ ap pos (digits_value-decimal own n small)))
number_said (negsuc n) is =
    let small : suc n < 2 ^ 64 = omega (arith, ints, is) in
    ((plain_decimal (suc n) small).negative, sym (ap (λ (m : ℕ). neg_ℤ (pos m)) (digits_value-decimal own (suc n) small)))

-- ---- thousandths

digit_says : (d : ℕ) → d < 10 → digit_value (48 + d) ≡ d
digit_says d small = grind (arith, nat_tests)

-- three digits say what is left beside whole ones
three_say : (n : ℕ) → fraction_value (three_digits n) ≡ n % 1000
three_say n =
    let first = digit_says (n / 100 % 10) (omega arith) in
    let second = digit_says (n / 10 % 10) (omega arith) in
    let third = digit_says (n % 10) (omega arith) in
    rw (first, second, third) (omega arith)

three_are : (n : ℕ) → IsFraction (three_digits n)
three_are n = (omega arith, omega arith, All-from_recursion (λ byte. IsTrue (is_ascii_digit byte)) (three_digits n) (three_pass n))

module _ (n : ℕ) (small : n < 2 ^ 64) where
  whole_plain : IsPlain (decimal (n / 1000))
  whole_plain = plain_decimal (n / 1000) (omega arith)

  amount : 1000 * digits_value 10 (decimal (n / 1000)) + fraction_value (three_digits n) ≡ n
  amount = omega (arith, digits_value-decimal own (n / 1000) (omega arith), three_say n)

  plain_parts : HasDecimalParts (thousandths_text n) (decimal (n / 1000)) (three_digits n)
  plain_parts = record { parts = refl; number = whole_plain.number; digits = three_are n }

  plain_said : pos n ≡ thousandths (decimal (n / 1000)) (three_digits n)
  plain_said = sym (whole_plain.unsigned _ ∙ ap pos (ap (λ digits. 1000 * digits_value 10 digits + fraction_value (three_digits n)) whole_plain.plain ∙ amount))

  negative_parts : HasDecimalParts (45 ∷ thousandths_text n) (45 ∷ decimal (n / 1000)) (three_digits n)
  negative_parts = record { parts = refl; number = whole_plain.negative; digits = three_are n }

  negative_said : neg_ℤ (pos n) ≡ thousandths (45 ∷ decimal (n / 1000)) (three_digits n)
  negative_said = sym (ap (λ (m : ℕ). neg_ℤ (pos m)) amount)

pub decimal_signed : (value : ℤ) → IsValue value → IsSignedDecimal (decimal_text value)
decimal_signed (pos n) is = (decimal (n / 1000), (three_digits n, plain_parts n (omega (arith, ints, is))))
decimal_signed (negsuc n) is = (45 ∷ decimal (suc n / 1000), (three_digits (suc n), negative_parts (suc n) (omega (arith, ints, is))))

pub decimal_said : (value : ℤ) → IsValue value → SaysThousandths value (decimal_text value)
decimal_said (pos n) is =
    let small : n < 2 ^ 64 = omega (arith, ints, is) in
    inr (decimal (n / 1000), (three_digits n, (plain_parts n small, plain_said n small)))
decimal_said (negsuc n) is =
    let small : suc n < 2 ^ 64 = omega (arith, ints, is) in
    inr (45 ∷ decimal (suc n / 1000), (three_digits (suc n), (negative_parts (suc n) small, negative_said (suc n) small)))
