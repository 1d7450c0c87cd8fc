-- Numbers are ASCII.
use Rattle.std.proofs.Common.{◌≡◌, ℕ, ◌<◌, List, [], ◌∷◌, ◌++◌, true, false, Bool, eqb, codes, refl, sym, subst, All, IsTrue, arith}
use Rattle.std.proofs.lemmas.Bool.Decides.{nat_tests}
use Rattle.std.specs.List.{AllByRecursion}
use Rattle.std.proofs.lemmas.List.Elements.{All-cons, All-from_recursion, recursion_from_All}
use Rattle.std.specs.Char.{is_ascii_digit}
use Rattle.script_lang.specs.Number.{IsSignedNumber, IsSignedDecimal}

abbrev IsLow : ℕ → Type 0
IsLow byte = byte < 128

pub digit_is_low : (byte : ℕ) → IsTrue (is_ascii_digit byte) → byte < 128
digit_is_low byte is = grind (arith, nat_tests)

low_at : (first : ℕ) (rest : List ℕ) (v : Bool) → eqb first 45 ≡ v → IsSignedNumber (first ∷ rest) → All (λ byte. byte < 128) (first ∷ rest)
low_at first rest true e is = let digits = rw e at is in All-cons IsLow first rest (grind (arith, nat_tests)) (λ k d in_rest. digit_is_low _ (digits.1 k d in_rest))
low_at first rest false e is = let digits = rw e at is in λ k d in_word. digit_is_low _ (digits.1 k d in_word)

pub number_is_ascii : (word : List ℕ) → IsSignedNumber word → All (λ byte. byte < 128) word
number_is_ascii [] is = λ k d in_word. absurd (omega arith)
number_is_ascii (first ∷ rest) is = low_at first rest (eqb first 45) refl is

joined_is_ascii : (whole fraction : List ℕ) → AllByRecursion IsLow whole → AllByRecursion IsLow fraction → AllByRecursion IsLow (whole ++ (codes "." ++ fraction))
joined_is_ascii [] fraction front behind = (omega arith, behind)
joined_is_ascii (byte ∷ whole) fraction front behind = (front.0, joined_is_ascii whole fraction front.1 behind)

digits_are_ascii : (digits : List ℕ) → AllByRecursion (λ byte. IsTrue (is_ascii_digit byte)) digits → AllByRecursion IsLow digits
digits_are_ascii [] are = tt
digits_are_ascii (byte ∷ digits) are = (digit_is_low byte are.0, digits_are_ascii digits are.1)

pub decimal_is_ascii : (word : List ℕ) → IsSignedDecimal word → All (λ byte. byte < 128) word
decimal_is_ascii word (whole, (fraction, is)) =
    let front = recursion_from_All IsLow whole (number_is_ascii whole is.number) in
    let behind = digits_are_ascii fraction (recursion_from_All (λ byte. IsTrue (is_ascii_digit byte)) fraction is.digits.2) in
    All-from_recursion IsLow word (subst (AllByRecursion IsLow) (sym is.parts) (joined_is_ascii whole fraction front behind))
