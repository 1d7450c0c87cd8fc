-- How many thousandths digits before and behind a point are.
use Rattle.std.proofs.Common.{◌≡◌, ℕ, ◌+◌, ◌*◌, ◌<◌, ◌≤◌, Bool, true, false, eqb, Option, Some, None, List, [], ◌∷◌, length, ℤ, pos, negsuc, w32, to_z, of_z, FitsSigned, All, IsTrue, refl, sym, ◌∙◌, ap, subst, inl, inr, arith}
use Rattle.std.specs.Prelude.{MatchOption, IfSome, IfNone, slice_get, ◌*ℤ◌, ◌+ℤ◌}
use Rattle.std.specs.Char.{is_ascii_digit, digit_value}
use Rattle.std.specs.Str.Parse.{digits_value}
use Rattle.std.proofs.lemmas.Bool.Decides.{nat_tests}
use Rattle.std.proofs.lemmas.Int.{ints, to_z-of_z}
use Rattle.std.proofs.lemmas.List.Elements.{All-head, All-tail}
use lib.Signed.{le_z}
use Rattle.domain_core.specs.Domain.{IsValue}
use Rattle.script_lang.specs.Naming.{StandsFor}
use Rattle.script_lang.specs.Number.{without_minus, IsSignedNumber, signed_value, IsFraction, fraction_value, with_sign_of, thousandths}

abbrev IsDigit : ℕ → Type 0
IsDigit byte = IsTrue (is_ascii_digit byte)

-- ---- digits

-- digits alone are a number, and say what they say
no_minus : (byte : ℕ) → IsDigit byte → eqb byte 45 ≡ false
no_minus byte is = grind (arith, nat_tests)

plain_number : (digits : List ℕ) → 0 < length digits → All (λ byte. IsTrue (is_ascii_digit byte)) digits → IsSignedNumber digits × (signed_value digits ≡ pos (digits_value 10 digits))
plain_number [] some are = absurd (omega arith)
plain_number (byte ∷ rest) some are =
    let none : eqb byte 45 ≡ false = no_minus byte (All-head IsDigit byte rest are) in
    rw none ((some, are), refl)

-- digits before the point, without the sign
units_number : (whole : List ℕ) → IsSignedNumber whole → IsSignedNumber (without_minus whole) × (signed_value (without_minus whole) ≡ pos (digits_value 10 (without_minus whole)))
units_number whole is = plain_number (without_minus whole) is.0 is.1

digit_below : (byte : ℕ) → IsDigit byte → digit_value byte < 10
digit_below byte is = grind (arith, nat_tests)

abbrev IsDigitAt : List ℕ → ℕ → ℤ → Type 0
IsDigitAt digits place value = MatchOption (slice_get digits place) (value ≡ pos 0) (λ byte. value ≡ pos (digit_value byte))

pub fraction_is : (fraction : List ℕ) (one two three : ℤ) → IsFraction fraction → IsDigitAt fraction 0 one → IsDigitAt fraction 1 two → IsDigitAt fraction 2 three
    → (pos 100 *ℤ one) +ℤ (pos 10 *ℤ two) +ℤ three ≡ pos (fraction_value fraction)
fraction_is [] one two three is first second third = absurd (omega (arith, is.0))
fraction_is (a ∷ []) one two three is first second third = omega (arith, ints, first, second, third)
fraction_is (a ∷ b ∷ []) one two three is first second third = omega (arith, ints, first, second, third)
fraction_is (a ∷ b ∷ c ∷ []) one two three is first second third = omega (arith, ints, first, second, third)
fraction_is (a ∷ b ∷ c ∷ d ∷ more) one two three is first second third = absurd (omega (arith, is.1))

pub fraction_below : (fraction : List ℕ) → IsFraction fraction → fraction_value fraction < 1000
fraction_below [] is = absurd (omega (arith, is.0))
fraction_below (a ∷ []) is = omega (arith, digit_below a (All-head IsDigit a [] is.2))
fraction_below (a ∷ b ∷ []) is = omega (arith, digit_below a (All-head IsDigit a (b ∷ []) is.2), digit_below b (All-head IsDigit b [] (All-tail IsDigit a (b ∷ []) is.2)))
fraction_below (a ∷ b ∷ c ∷ []) is =
    let rest = All-tail IsDigit a (b ∷ c ∷ []) is.2 in
    omega (arith, digit_below a (All-head IsDigit a (b ∷ c ∷ []) is.2), digit_below b (All-head IsDigit b (c ∷ []) rest), digit_below c (All-head IsDigit c [] (All-tail IsDigit b (c ∷ []) rest)))
fraction_below (a ∷ b ∷ c ∷ d ∷ more) is = absurd (omega (arith, is.1))

-- ---- signs

sign_value_at : (byte : ℕ) (rest : List ℕ) (amount : ℤ) (v : Bool) → eqb byte 45 ≡ v → IsValue amount → IsValue (with_sign_of (byte ∷ rest) amount)
sign_value_at byte rest (pos n) true e is = rw e (omega (arith, ints, is.0, is.1), omega (arith, ints, is.0, is.1))
sign_value_at byte rest (negsuc n) true e is = rw e (omega (arith, ints, is.0, is.1), omega (arith, ints, is.0, is.1))
sign_value_at byte rest amount false e is = rw e is

-- a value is one with the other sign too
sign_value : (word : List ℕ) (amount : ℤ) → IsValue amount → IsValue (with_sign_of word amount)
sign_value [] amount is = is
sign_value (byte ∷ rest) amount is = sign_value_at byte rest amount (eqb byte 45) refl is

sign_inside_at : (byte : ℕ) (rest : List ℕ) (n : ℕ) (v : Bool) → eqb byte 45 ≡ v → IsValue (with_sign_of (byte ∷ rest) (pos n)) → n ≤ 1000000
sign_inside_at byte rest n true e is = let inside = rw e at is in omega (arith, ints, inside.0, inside.1)
sign_inside_at byte rest n false e is = let inside = rw e at is in omega (arith, ints, inside.0, inside.1)

pub sign_inside : (word : List ℕ) (n : ℕ) → IsValue (with_sign_of word (pos n)) → n ≤ 1000000
sign_inside [] n is = omega (arith, ints, is.1)
sign_inside (byte ∷ rest) n is = sign_inside_at byte rest n (eqb byte 45) refl is

-- ---- sums

-- the whole part and what is behind the point
amount_is : (whole digits fraction : List ℕ) (units behind : ℤ) → IsSignedNumber whole → digits ≡ without_minus whole → units ≡ signed_value digits → behind ≡ pos (fraction_value fraction)
    → units *ℤ pos 1000 +ℤ behind ≡ pos (1000 * digits_value 10 (without_minus whole) + fraction_value fraction)
amount_is whole digits fraction units behind number same is behind_is =
    let units_are : units ≡ pos (digits_value 10 (without_minus whole)) = is ∙ (ap signed_value same ∙ (units_number whole number).1) in
    omega (arith, ints, units_are, behind_is)

-- what the code keeps of it
pub amount_kept : (whole digits fraction : List ℕ) (units behind : ℤ) → IsSignedNumber whole → IsFraction fraction → digits ≡ without_minus whole
    → (units ≡ signed_value digits) × IsValue units → behind ≡ pos (fraction_value fraction)
    → to_z w32 (of_z w32 (to_z w32 (of_z w32 (to_z w32 (of_z w32 units) *ℤ pos 1000)) +ℤ to_z w32 (of_z w32 behind)))
    ≡ pos (1000 * digits_value 10 (without_minus whole) + fraction_value fraction)
amount_kept whole digits fraction units behind number is same (said, value) behind_is =
    let below = fraction_below fraction is in
    omega (arith, ints, below, value.0, value.1, behind_is, amount_is whole digits fraction units behind number same said behind_is)

pub amount_most : (amount : ℤ) (n : ℕ) → amount ≡ pos n → le_z amount (pos 1000000) ≡ true → n ≤ 1000000
amount_most amount n is most = let told = rw is at most in grind (arith, nat_tests)

pub amount_more : (amount : ℤ) (n : ℕ) → amount ≡ pos n → le_z amount (pos 1000000) ≡ false → n ≤ 1000000 → ⊥
amount_more amount n is more = let told = rw is at more in grind (arith, nat_tests)

pub amount_value : (amount : ℤ) (n : ℕ) → amount ≡ pos n → n ≤ 1000000 → IsValue amount
amount_value amount n is small = (omega (arith, ints, is), omega (arith, ints, is))

-- the value with its sign
pub amount_said : (whole : List ℕ) (result amount : ℤ) (n : ℕ) → n ≤ 1000000 → amount ≡ pos n → result ≡ with_sign_of whole amount
    → (to_z w32 (of_z w32 result) ≡ with_sign_of whole (pos n)) × IsValue (to_z w32 (of_z w32 result))
amount_said whole result amount n small is said =
    let same : result ≡ with_sign_of whole (pos n) = said ∙ ap (with_sign_of whole) is in
    let value : IsValue result = subst IsValue (sym same) (sign_value whole (pos n) (omega (arith, ints), omega (arith, ints))) in
    let kept : to_z w32 (of_z w32 result) ≡ result = omega (arith, ints, value.0, value.1) in
    (kept ∙ same, subst IsValue (sym kept) value)

-- where the whole part alone is too large, so is all
pub units_outside : (whole digits fraction : List ℕ) → IsSignedNumber whole → digits ≡ without_minus whole → (IsValue (signed_value digits) → ⊥) → IsValue (thousandths whole fraction) → ⊥
units_outside whole digits fraction number same outside inside =
    let most = sign_inside whole (1000 * digits_value 10 (without_minus whole) + fraction_value fraction) inside in
    let units_are : signed_value digits ≡ pos (digits_value 10 (without_minus whole)) = ap signed_value same ∙ (units_number whole number).1 in
    outside (omega (arith, ints, most, units_are), omega (arith, ints, most, units_are))

-- what stands for a number
pub stands_for : (found : Option ℤ) (value number : ℤ) → FitsSigned w32 value → MatchOption found (IsValue value → ⊥) (λ inside. value ≡ inside)
    → IfSome found (λ inside. (inside ≡ number) × IsValue inside) → IfNone found (IsValue number → ⊥) → StandsFor (to_z w32 (of_z w32 value)) number
stands_for (Some inside) value number fits is some none = inl (to_z-of_z w32 value fits ∙ (is ∙ some.0))
stands_for None value number fits out some none = inr (subst (λ (v : ℤ). IsValue v → ⊥) (sym (to_z-of_z w32 value fits)) out, none)
