-- Numbers as digits.
use Rattle.std.proofs.Common.{◌≡◌, ℕ, ◌<◌, ◌^◌, zero, suc, List, [], ◌∷◌, ◌++◌, length, get_or, take, drop, refl, sym, ◌∙◌, ap, inl, inr, All, IsTrue, arith}
use Rattle.std.specs.Char.{is_ascii_digit}
use Rattle.std.specs.Fmt.{decimal}
use Rattle.std.specs.List.{prefix_len}
use Rattle.std.specs.Str.{IsUtf8}
use Rattle.std.specs.Str.Parse.{IsNumeral, digits_value, without_leading_plus}
use Rattle.std.proofs.lemmas.Bool.{cases_lt}
use Rattle.std.proofs.lemmas.Bool.Decides.{nat_tests}
use Rattle.std.proofs.lemmas.Fmt.{decimal_is_IsNumeral, decimal_injective, first_decimal, decimal_digit, decimal-digits_value, digits_decimal}
use Rattle.std.proofs.lemmas.List.{take-append-drop}
use Rattle.std.proofs.lemmas.Str.{IsUtf8-from_ascii}
use Rattle.std.proofs.lemmas.Str.Ascii.{IsAscii-from_all}
use Rattle.std.proofs.lemmas.List.Elements.{recursion_from_All, All-from_recursion}
use Rattle.std.proofs.lemmas.Str.Parse.{IsNumeralModel, IsDigitsTest, numerals_by_value, without_leading_plus_none}
use Rattle.eu_name.specs.Readers.{HasNoDigit, HasNumber}
use Rattle.eu_name.proofs.Fronts.{Passes, Stops, same_fronts, is_prefix, prefix_passes, prefix_stops}

-- digits, as the kit's lemmas on numerals want them
tells : IsDigitsTest (Passes is_ascii_digit)
tells = record {
  empty = tt;
  parts = λ c cs are. (grind (arith, nat_tests), are.1);
  more = λ c cs is are. (grind (arith, nat_tests), are);
}

pub own : IsNumeralModel (Passes is_ascii_digit) (digits_value 10)
own = numerals_by_value (Passes is_ascii_digit) tells

-- the digits of a number below 65,536
pub number_passes : (n : ℕ) → n < 65536 → Passes is_ascii_digit (decimal n)
number_passes n small = digits_decimal own n (omega arith)

pub no_digit_stops : (rest : List ℕ) → HasNoDigit rest → Stops is_ascii_digit rest
no_digit_stops [] none = tt
no_digit_stops (byte ∷ rest) none = none

-- two numbers that the same text goes on with are one, and so is what follows them
pub same_numbers : (m n : ℕ) (rest left : List ℕ) → m < 65536 → n < 65536 → HasNoDigit rest → HasNoDigit left → decimal m ++ rest ≡ decimal n ++ left → (m ≡ n) × (rest ≡ left)
same_numbers m n rest left small small' ended ended' whole =
    let same = same_fronts is_ascii_digit (decimal m) (decimal n) rest left (number_passes m small) (number_passes n small') (no_digit_stops rest ended) (no_digit_stops left ended') whole in
    (decimal_injective m n (omega arith) (omega arith) same.0, same.1)

-- ---- the number that digits write

abbrev AreDigits : List ℕ → Type 0
AreDigits digits = All (λ byte. IsTrue (is_ascii_digit byte)) digits

pub passes : (digits : List ℕ) → AreDigits digits → Passes is_ascii_digit digits
passes digits are = recursion_from_All (λ byte. IsTrue (is_ascii_digit byte)) digits are

first_passes : (digits : List ℕ) → Passes is_ascii_digit digits → 0 < length digits → get_or digits 0 0 ≡ 43 → ⊥
first_passes [] are some plus = omega arith
first_passes (byte ∷ digits) are some plus = grind (arith, nat_tests)

-- a sign is no digit
unsigned : (digits : List ℕ) → Passes is_ascii_digit digits → without_leading_plus digits ≡ digits
unsigned [] are = refl
unsigned (byte ∷ digits) are = without_leading_plus_none (byte ∷ digits) (first_passes (byte ∷ digits) are (omega arith))

-- what parsing found
pub found_number : (digits : List ℕ) (n : ℕ) → AreDigits digits → ((1 < length digits) × (get_or digits 0 0 ≡ 48) → ⊥) → IsNumeral 10 (without_leading_plus digits) × (digits_value 10 (without_leading_plus digits) < 2 ^ 16) → n ≡ digits_value 10 (without_leading_plus digits) → (n < 65536) × (digits ≡ decimal n)
found_number digits n are no_zero numeral value =
    let plain : without_leading_plus digits ≡ digits = unsigned digits (passes digits are) in
    let is : n ≡ digits_value 10 digits = rw plain at value in
    let some : 0 < length digits = (rw plain at numeral.0).0 in
    let small : digits_value 10 digits < 65536 = rw plain at numeral.1 in
    let single : get_or digits 0 0 ≡ 48 → length digits ≡ 1 = λ zero. elim (cases_lt 1 (length digits)) [ inl long ↦ absurd (no_zero (long, zero)) | inr short ↦ omega arith ] in
    (omega arith, rw is (sym (decimal-digits_value own digits (passes digits are) some single (omega arith))))

-- no number is written with a zero before other digits
pub zero_first : (digits : List ℕ) (n : ℕ) → n < 65536 → digits ≡ decimal n → (1 < length digits) × (get_or digits 0 0 ≡ 48) → ⊥
zero_first digits zero small is leading = let single : length (decimal 0) ≡ 1 = ap length (decimal_digit 0 (omega arith)) in omega (arith, leading.0, ap length is)
zero_first digits (suc n) small is leading = let first = first_decimal (suc n) (omega arith) (omega arith) in omega (arith, leading.1, ap (λ bytes. get_or bytes 0 0) is)

-- what parsing refuses is no number below 65,536
pub refused_number : (digits : List ℕ) → AreDigits digits → (IsNumeral 10 (without_leading_plus digits) × (digits_value 10 (without_leading_plus digits) < 2 ^ 16) → ⊥) → (n : ℕ) → n < 65536 → digits ≡ decimal n → ⊥
refused_number digits are refused n small is =
    let numeral = decimal_is_IsNumeral n (omega arith) in
    refused (rw (unsigned digits (passes digits are), is) (numeral.0, omega (arith, numeral.1)))

digit_is_low : (byte : ℕ) → IsTrue (is_ascii_digit byte) → byte < 128
digit_is_low byte is = grind (arith, nat_tests)

pub digits_are_text : (digits : List ℕ) → AreDigits digits → IsUtf8 digits
digits_are_text digits are = IsUtf8-from_ascii digits (IsAscii-from_all digits (λ k d in_digits. digit_is_low _ (are k d in_digits)))

-- ---- a number after a mark

-- the digits at the front
pub front_is_digits : (text digits : List ℕ) (n : ℕ) → n ≡ prefix_len is_ascii_digit text → digits ≡ take n text → AreDigits digits
front_is_digits text digits n len front = rw (front, len) (All-from_recursion (λ byte. IsTrue (is_ascii_digit byte)) (take (prefix_len is_ascii_digit text) text) (prefix_passes is_ascii_digit text))

stops_no_digit : (rest : List ℕ) → Stops is_ascii_digit rest → HasNoDigit rest
stops_no_digit [] none = tt
stops_no_digit (byte ∷ rest) none = none

-- the mark and then the digits at the front
pub has_number : (mark : ℕ) (text after digits rest : List ℕ) (len n : ℕ) → text ≡ mark ∷ after → len ≡ prefix_len is_ascii_digit after → digits ≡ take len after → rest ≡ drop len after → (n < 65536) × (digits ≡ decimal n) → HasNumber mark text n rest
has_number mark text after digits rest len n whole is front back found = record {
  small = found.0;
  whole = rw (whole, ← found.1, front, back) (ap (λ bytes. mark ∷ bytes) (sym (take-append-drop len after)));
  ended = rw (back, is) (stops_no_digit (drop (prefix_len is_ascii_digit after) after) (prefix_stops is_ascii_digit after));
}

-- no number comes after the mark
pub has_no_number : (mark : ℕ) (text after digits : List ℕ) (len : ℕ) → text ≡ mark ∷ after → len ≡ prefix_len is_ascii_digit after → digits ≡ take len after → ((n : ℕ) → n < 65536 → digits ≡ decimal n → ⊥) → (n : ℕ) (rest : List ℕ) → HasNumber mark text n rest → ⊥
has_no_number mark text after digits len whole is front none n rest has =
    let both : mark ∷ after ≡ mark ∷ (decimal n ++ rest) = sym whole ∙ has.whole in
    let tails : after ≡ decimal n ++ rest = cc in
    let same = is_prefix is_ascii_digit after (decimal n) rest (number_passes n has.small) (no_digit_stops rest has.ended) tails in
    none n has.small (front ∙ (ap (λ k. take k after) is ∙ same.0))

-- a text goes on with one number at most after a mark
pub same_marked : (mark mark' : ℕ) (text : List ℕ) (m n : ℕ) (rest left : List ℕ) → HasNumber mark text m rest → HasNumber mark' text n left → (mark ≡ mark') × (m ≡ n) × (rest ≡ left)
same_marked mark mark' text m n rest left one other =
    let both : mark ∷ (decimal m ++ rest) ≡ mark' ∷ (decimal n ++ left) = sym one.whole ∙ other.whole in
    let marks : mark ≡ mark' = cc in
    let tails : decimal m ++ rest ≡ decimal n ++ left = cc in
    let same = same_numbers m n rest left one.small other.small one.ended other.ended tails in
    (marks, same.0, same.1)
