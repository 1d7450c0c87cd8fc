-- What the class of a byte says of it, and how a byte has its class.
use Rattle.std.proofs.Common.{◌≡◌, ℕ, true, false, eqb, ◌⊎◌, ◌∙◌, ap, inl, inr, arith}
use Rattle.std.specs.Char.{is_ascii_digit}
use Rattle.std.proofs.lemmas.Bool.{cond_both, cond-true, cond-false, eqb-true, eqb-false, or_cases, or_left, both_ways}
use Rattle.std.proofs.lemmas.Bool.Decides.{nat_tests}
use Rattle.eu_name.specs.Word.{is_word_start, is_word_byte}
use Rattle.nddl_lexer.specs.declared.fronts.Class.{Class}
use Rattle.nddl_lexer.specs.declared.fronts.Class.TheVariants.{Blank, Letter, Digit, Sign, Quote, Hash, Slash, Other}
use Rattle.nddl_lexer.specs.Bytes.{is_blank, is_sign}
use Rattle.nddl_lexer.specs.Scan.{class_of}

abbrev pub ClassIs : ℕ → Class → Type 0
ClassIs byte Blank = is_blank byte ≡ true
ClassIs byte Letter = is_word_start byte ≡ true
ClassIs byte Digit = is_ascii_digit byte ≡ true
ClassIs byte Sign = is_sign byte ≡ true
ClassIs byte Quote = byte ≡ 34
ClassIs byte Hash = byte ≡ 35
ClassIs byte Slash = byte ≡ 47
ClassIs byte Other = byte ≡ 47 → ⊥

pub class_is : (byte : ℕ) → ClassIs byte (class_of byte)
class_is byte =
    cond_both (is_blank byte) _ _ (ClassIs byte) (λ yes. yes)
    (λ _. cond_both (is_word_start byte) _ _ (ClassIs byte) (λ yes. yes)
    (λ _. cond_both (is_ascii_digit byte) _ _ (ClassIs byte) (λ yes. yes)
    (λ _. cond_both (is_sign byte) _ _ (ClassIs byte) (λ yes. yes)
    (λ _. cond_both (eqb byte 34) _ _ (ClassIs byte) (λ yes. eqb-true _ _ yes)
    (λ _. cond_both (eqb byte 35) _ _ (ClassIs byte) (λ yes. eqb-true _ _ yes)
    (λ _. cond_both (eqb byte 47) _ _ (ClassIs byte) (λ yes. eqb-true _ _ yes)
    (λ no. eqb-false _ _ no)))))))

start_not_blank : (byte : ℕ) → is_word_start byte ≡ true → is_blank byte ≡ false
start_not_blank byte start = grind (arith, nat_tests)

digit_not_blank : (byte : ℕ) → is_ascii_digit byte ≡ true → is_blank byte ≡ false
digit_not_blank byte digit = grind (arith, nat_tests)

digit_not_start : (byte : ℕ) → is_ascii_digit byte ≡ true → is_word_start byte ≡ false
digit_not_start byte digit = grind (arith, nat_tests)

pub digit_not_sign : (byte : ℕ) → is_ascii_digit byte ≡ true → is_sign byte ≡ false
digit_not_sign byte digit = grind (arith, nat_tests)

pub class_blank : (byte : ℕ) → is_blank byte ≡ true → class_of byte ≡ Blank
class_blank byte blank = cond-true _ _ _ blank

pub class_letter : (byte : ℕ) → is_word_start byte ≡ true → class_of byte ≡ Letter
class_letter byte start = cond-false _ _ _ (start_not_blank byte start) ∙ cond-true _ _ _ start

pub class_digit : (byte : ℕ) → is_ascii_digit byte ≡ true → class_of byte ≡ Digit
class_digit byte digit = cond-false _ _ _ (digit_not_blank byte digit) ∙ (cond-false _ _ _ (digit_not_start byte digit) ∙ cond-true _ _ _ digit)

-- a sign is one of two bytes
pub sign_is : (byte : ℕ) → is_sign byte ≡ true → (byte ≡ 43) ⊎ (byte ≡ 45)
sign_is byte sign = elim (or_cases (eqb byte 43) (eqb byte 45) sign) [ inl plus ↦ inl (eqb-true _ _ plus) | inr minus ↦ inr (eqb-true _ _ minus) ]

pub class_sign : (byte : ℕ) → is_sign byte ≡ true → class_of byte ≡ Sign
class_sign byte sign = elim (sign_is byte sign) [ inl plus ↦ ap class_of plus | inr minus ↦ ap class_of minus ]

pub start_is_word_byte : (byte : ℕ) → is_word_start byte ≡ true → is_word_byte byte ≡ true
start_is_word_byte byte start = or_left (is_word_start byte) (is_ascii_digit byte) start

-- a byte of one class isn't of another
pub sign_not_slash : (byte : ℕ) → is_sign byte ≡ true → byte ≡ 47 → ⊥
sign_not_slash byte sign slash = both_ways (is_sign byte) (ap is_sign slash) sign
