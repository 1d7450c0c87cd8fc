-- Numbers in decimal digits, and those with a point among them.
use Rattle.std.specs.Prelude.{◌≡◌, ℕ, ◌+◌, ◌-◌, ◌*◌, ◌^◌, ◌<◌, ◌≤◌, ◌==◌, ◌⊎◌, List, [], ◌∷◌, ◌++◌, length, All, IsTrue, cond, codes}
use Rattle.std.specs.Prelude.{ℤ, pos, neg_ℤ}
use Rattle.std.specs.Char.{is_ascii_digit}
use Rattle.std.specs.Str.Parse.{digits_value}

-- what the word has after a minus sign at its front, if there is one
abbrev pub without_minus : List ℕ → List ℕ
without_minus [] = []
without_minus (first ∷ rest) = cond (first == 45) rest (first ∷ rest)

-- decimal digits, one or more, with a minus sign before them or nothing
abbrev pub IsSignedNumber : List ℕ → Type 0
IsSignedNumber word =
    (0 < length (without_minus word)) × All (λ byte. IsTrue (is_ascii_digit byte)) (without_minus word)

-- what the digits say in base ten, negative after a minus sign; `-0` is 0
abbrev pub signed_value : List ℕ → ℤ
signed_value [] = pos 0
signed_value (first ∷ rest) =
    cond (first == 45) (neg_ℤ (pos (digits_value 10 rest))) (pos (digits_value 10 (first ∷ rest)))

-- one to three digits
abbrev pub IsFraction : List ℕ → Type 0
IsFraction fraction =
    (0 < length fraction) × (length fraction ≤ 3) × All (λ byte. IsTrue (is_ascii_digit byte)) fraction

-- the word is a number, a point and one to three digits behind it
pub record HasDecimalParts (word whole fraction : List ℕ) : Type 0 where
  pub parts : word ≡ whole ++ (codes "." ++ fraction)
  pub number : IsSignedNumber whole
  pub digits : IsFraction fraction

-- it is some number with a point and such digits
abbrev pub IsSignedDecimal : List ℕ → Type 0
IsSignedDecimal word = (whole : List ℕ) × ((fraction : List ℕ) × HasDecimalParts word whole fraction)

-- how many thousandths the digits behind a point are: the first says tenths, the second hundredths
abbrev pub fraction_value : List ℕ → ℕ
fraction_value fraction = digits_value 10 fraction * 10 ^ (3 - length fraction)

-- the amount with the sign that the word has at its front
abbrev pub with_sign_of : List ℕ → ℤ → ℤ
with_sign_of [] amount = amount
with_sign_of (first ∷ rest) amount = cond (first == 45) (neg_ℤ amount) amount

-- the thousandths of the number that has these digits before its point and those behind it; `-0.0` is 0
abbrev pub thousandths : List ℕ → List ℕ → ℤ
thousandths whole fraction =
    with_sign_of whole (pos (1000 * digits_value 10 (without_minus whole) + fraction_value fraction))

-- the word says so many thousandths: as a decimal, or as a number n, which stands for n.000
abbrev pub SaysThousandths : ℤ → List ℕ → Type 0
SaysThousandths value word =
    (IsSignedNumber word × (value ≡ thousandths word (codes "000")))
    ⊎ ((whole : List ℕ) × ((fraction : List ℕ) × (HasDecimalParts word whole fraction × (value ≡ thousandths whole fraction))))
