-- Numbers with a point among their digits: where they are cut, and that they say one thing.
use Rattle.std.proofs.Common.{◌≡◌, ℕ, Bool, true, false, eqb, List, [], ◌∷◌, ◌++◌, ℤ, All, IsTrue, codes, refl, sym, ◌∙◌, subst, inl, inr, arith}
use Rattle.std.specs.Char.{is_ascii_digit}
use Rattle.std.proofs.lemmas.Bool.Decides.{nat_tests}
use Rattle.std.proofs.lemmas.List.Elements.{All-from_recursion, recursion_from_All}
use Rattle.eu_name.proofs.Fronts.{Passes}
use Rattle.model_core.specs.Naming.{is_point}
use Rattle.plan_text.proofs.Decimals.{digits_no_point, cut_same, no_cut}
use Rattle.plan_text.proofs.Points.{goes_on, no_point}
use Rattle.script_lang.specs.Number.{IsSignedNumber, IsFraction, HasDecimalParts, IsSignedDecimal, SaysThousandths}

abbrev AreDigits : List ℕ → Type 0
AreDigits digits = All (λ byte. IsTrue (is_ascii_digit byte)) digits

-- ---- a number has no point

minus_goes_on : (byte : ℕ) → eqb byte 45 ≡ true → goes_on byte ≡ true
minus_goes_on byte is = grind (arith, nat_tests)

digits_go_on : (digits : List ℕ) → AreDigits digits → Passes goes_on digits
digits_go_on digits are = digits_no_point digits (recursion_from_All (λ byte. IsTrue (is_ascii_digit byte)) digits are)

number_goes_at : (byte : ℕ) (rest : List ℕ) (v : Bool) → eqb byte 45 ≡ v → IsSignedNumber (byte ∷ rest) → Passes goes_on (byte ∷ rest)
number_goes_at byte rest true e is = let digits = rw e at is in (minus_goes_on byte e, digits_go_on rest digits.1)
number_goes_at byte rest false e is = let digits = rw e at is in digits_go_on (byte ∷ rest) digits.1

number_goes_on : (word : List ℕ) → IsSignedNumber word → Passes goes_on word
number_goes_on [] is = tt
number_goes_on (byte ∷ rest) is = number_goes_at byte rest (eqb byte 45) refl is

number_plain : (word : List ℕ) → IsSignedNumber word → All (λ byte. is_point byte ≡ false) word
number_plain word is = All-from_recursion (λ byte. is_point byte ≡ false) word (no_point word (number_goes_on word is))

-- so a word without a point is no decimal
pub no_point_no_decimal : (word : List ℕ) → All (λ byte. is_point byte ≡ false) word → IsSignedDecimal word → ⊥
no_point_no_decimal word plain (whole, (fraction, is)) = no_cut word whole fraction plain is.parts

number_no_decimal : (word : List ℕ) → IsSignedNumber word → IsSignedDecimal word → ⊥
number_no_decimal word number is = no_point_no_decimal word (number_plain word number) is

-- ---- and a word is cut in one way

record AreSame (front behind whole fraction : List ℕ) : Type 0 where
  whole_same : front ≡ whole
  fraction_same : behind ≡ fraction

cut_once : (word front behind whole fraction : List ℕ) → All (λ byte. is_point byte ≡ false) front × (word ≡ front ++ (codes "." ++ behind)) → HasDecimalParts word whole fraction
    → AreSame front behind whole fraction
cut_once word front behind whole fraction cut is =
    let both = cut_same word front behind whole fraction cut (number_goes_on whole is.number) is.parts in
    record { whole_same = both.0; fraction_same = both.1 }

pub no_decimal : (word front behind : List ℕ) → All (λ byte. is_point byte ≡ false) front × (word ≡ front ++ (codes "." ++ behind)) → (IsSignedNumber front → IsFraction behind → ⊥) → IsSignedDecimal word → ⊥
no_decimal word front behind cut neither (whole, (fraction, is)) =
    let same = cut_once word front behind whole fraction cut is in
    neither (subst IsSignedNumber (sym same.whole_same) is.number) (subst IsFraction (sym same.fraction_same) is.digits)

-- ---- a word says one number of thousandths

pub thousandths_once : (word : List ℕ) (one other : ℤ) → SaysThousandths one word → SaysThousandths other word → one ≡ other
thousandths_once word one other (inl (number, is)) (inl (number', is')) = is ∙ sym is'
thousandths_once word one other (inl (number, is)) (inr (whole, (fraction, (decimal, is')))) = absurd (number_no_decimal word number (whole, (fraction, decimal)))
thousandths_once word one other (inr (whole, (fraction, (decimal, is)))) (inl (number, is')) = absurd (number_no_decimal word number (whole, (fraction, decimal)))
thousandths_once word one other (inr (whole, (fraction, (decimal, is)))) (inr (whole', (fraction', (decimal', is')))) =
    let same = cut_once word whole fraction whole' fraction' (number_plain whole decimal.number, decimal.parts) decimal' in
    is ∙ rw (same.whole_same, same.fraction_same) (sym is')
