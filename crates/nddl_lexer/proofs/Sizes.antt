-- The sizes that digits stand for, and which of them are in range.
use Rattle.std.proofs.Common.{◌≡◌, ℕ, ◌+◌, ◌-◌, ◌*◌, ◌^◌, ◌<◌, ◌≤◌, ℤ, pos, neg_ℤ, Bool, true, eqb, ◌⊎◌, Option, Some, None, List, [], ◌∷◌, ◌++◌, length, get_or, take, drop, refl, sym, subst, ◌∙◌, ap, inl, inr, arith}
use Rattle.std.specs.Char.{is_ascii_digit, digit_value}
use Rattle.std.specs.Str.Parse.{digits_value, AllDigits}
use Rattle.std.proofs.Math.Nat.{pow-le-pow_right}
use Rattle.std.proofs.lemmas.Bool.{cases_Bool, cases_lt, cond-true, cond-false}
use Rattle.std.proofs.lemmas.Bool.Decides.{nat_tests}
use Rattle.std.proofs.lemmas.Int.{ints}
use Rattle.std.proofs.lemmas.Int.Digits.{digits_value_more, digits_value-lt}
use Rattle.std.proofs.lemmas.List.{take_at, take_more, drop_at}
use Rattle.std.proofs.lemmas.Str.Parse.{digits_value-take-le}
use Rattle.nddl_lexer.specs.declared.kinds.LexKind.{LexKind}
use Rattle.nddl_lexer.specs.declared.kinds.LexKind.TheVariants.{Word, Number, Decimal, Str, Include, BraceOpen, BraceClose, ParenOpen, ParenClose, BracketOpen, BracketClose, Semicolon, Comma, Point, Assign, Equal, NotEqual, DoubleColon}
use Rattle.nddl_lexer.specs.Bytes.{AllPassing, AreDigits, unsigned}
use Rattle.nddl_lexer.specs.Spelling.{AreParts, IsNumber, IsDecimal, IsPiece, with_sign, thousandths_of, SpellsNumber, SpellsDecimal, IsNumberInRange, IsInRange}
use Rattle.nddl_lexer.specs.Scan.{digits_len}
use Rattle.nddl_lexer.proofs.Prefixes.{passing_is}
use Rattle.nddl_lexer.proofs.Shapes.{infinity_no_amount}

-- ---- digits

digit_is : (byte : ℕ) → is_ascii_digit byte ≡ true → digit_value byte ≡ byte - 48
digit_is byte digit = grind (arith, nat_tests)

digit_small : (byte : ℕ) → is_ascii_digit byte ≡ true → digit_value byte < 10
digit_small byte digit = grind (arith, nat_tests)

all_digits : (bytes : List ℕ) → AllPassing is_ascii_digit bytes → AllDigits 10 bytes
all_digits [] passes = tt
all_digits (byte ∷ bytes) passes = (digit_small byte passes.0, all_digits bytes passes.1)

-- one byte more that passes
pub passes_more : (p : ℕ → Bool) (xs : List ℕ) (i : ℕ) → AllPassing p (take i xs) → i < length xs → p (get_or xs i 0) ≡ true → AllPassing p (take (i + 1) xs)
passes_more p xs i passes within next = subst (AllPassing p) (sym (take_more xs i 0 within)) (push (take i xs) passes)
  where
    push : (front : List ℕ) → AllPassing p front → AllPassing p (front ++ get_or xs i 0 ∷ [])
    push [] front_passes = (next, tt)
    push (x ∷ front) front_passes = (front_passes.0, push front front_passes.1)

-- one digit more
pub size_more : (digits : List ℕ) (i size digit : ℕ) → is_ascii_digit (get_or digits i 0) ≡ true → i < length digits → size ≡ digits_value 10 (take i digits) → digit ≡ get_or digits i 0 - 48
    → size * 10 + digit ≡ digits_value 10 (take (i + 1) digits)
size_more digits i size digit passes within so_far is =
    omega (arith, digits_value_more 10 digits i within, digit_is (get_or digits i 0) passes, so_far, is)

-- what is too much already stays so
pub size_grows : (digits : List ℕ) (i most : ℕ) → most < digits_value 10 (take i digits) → most < digits_value 10 digits
size_grows digits i most above = omega (arith, above, digits_value-take-le 10 digits i (omega arith))

-- ---- parts of a decimal

pub parts_at : (bytes whole fraction : List ℕ) → AreParts bytes whole fraction → (take (digits_len bytes) bytes ≡ whole) × (drop (digits_len bytes) bytes ≡ 46 ∷ fraction)
parts_at bytes whole fraction parts =
    let len : digits_len bytes ≡ length whole = ap digits_len parts.0 ∙ passing_is is_ascii_digit whole 46 fraction parts.1.1 refl in (
      ap (λ (n : ℕ). take n bytes) len ∙ (ap (take (length whole)) parts.0 ∙ take_at whole (46 ∷ fraction) (length whole) refl),
      ap (λ (n : ℕ). drop n bytes) len ∙ (ap (drop (length whole)) parts.0 ∙ drop_at whole (46 ∷ fraction) (length whole) refl),
    )

-- a list has one first item
pub first_is : (rest : List ℕ) (first : ℕ) (more found : List ℕ) → rest ≡ first ∷ more → rest ≡ 46 ∷ found → first ≡ 46
first_is rest first more found is same = let heads : first ∷ more ≡ 46 ∷ found = sym is ∙ same in cc

-- the parts are those that the code finds
pub parts_are : (bytes : List ℕ) (n : ℕ) (front rest found : List ℕ) → n ≡ digits_len bytes → front ≡ take n bytes → rest ≡ drop n bytes → rest ≡ 46 ∷ found
    → (whole fraction : List ℕ) → AreParts bytes whole fraction → (whole ≡ front) × (fraction ≡ found)
parts_are bytes n front rest found len is_front is_rest is whole fraction parts =
    let at = parts_at bytes whole fraction parts in
    let heads : 46 ∷ fraction ≡ 46 ∷ found = sym at.1 ∙ (ap (λ (n : ℕ). drop n bytes) (sym len) ∙ (sym is_rest ∙ is)) in
    (sym at.0 ∙ (ap (λ (n : ℕ). take n bytes) (sym len) ∙ sym is_front), cc)

-- a text with parts has a point where its digits end
pub parts_point : (bytes : List ℕ) (n : ℕ) (rest : List ℕ) → n ≡ digits_len bytes → rest ≡ drop n bytes → ((found : List ℕ) → rest ≡ 46 ∷ found → ⊥)
    → (whole fraction : List ℕ) → AreParts bytes whole fraction → ⊥
parts_point bytes n rest len is_rest none whole fraction parts =
    none fraction (is_rest ∙ (ap (λ (n : ℕ). drop n bytes) len ∙ (parts_at bytes whole fraction parts).1))

pub parts_once : (bytes one one_fraction other other_fraction : List ℕ) → AreParts bytes one one_fraction → AreParts bytes other other_fraction → (one ≡ other) × (one_fraction ≡ other_fraction)
parts_once bytes one one_fraction other other_fraction p q =
    let p' = parts_at bytes one one_fraction p in
    let q' = parts_at bytes other other_fraction q in
    let heads : 46 ∷ one_fraction ≡ 46 ∷ other_fraction = sym p'.1 ∙ q'.1 in
    (sym p'.0 ∙ q'.0, cc)

-- three digits at the most are below a thousand
pub fraction_small : (fraction : List ℕ) → AreDigits fraction → length fraction ≤ 3 → 999 < digits_value 10 fraction → ⊥
fraction_small fraction digits short above =
    let below = digits_value-lt 10 fraction (all_digits fraction digits.1) in
    let power : 10 ^ length fraction ≤ 10 ^ 3 = pow-le-pow_right (omega arith) short in
    omega (arith, below, power, above)

-- ---- what is in range

pub size_in_range : (bytes : List ℕ) (size : ℕ) → size ≤ 1000000 → IsNumberInRange (with_sign bytes size)
size_in_range [] size small = (omega (arith, ints), omega (arith, ints))
size_in_range (byte ∷ bytes) size small = elim (cases_Bool (eqb byte 45)) [
  | inl minus ↦ subst IsNumberInRange (sym (cond-true _ (neg_ℤ (pos size)) (pos size) minus)) (omega (arith, ints), omega (arith, ints))
  | inr other ↦ subst IsNumberInRange (sym (cond-false _ (neg_ℤ (pos size)) (pos size) other)) (omega (arith, ints), omega (arith, ints))
]

pub range_size : (bytes : List ℕ) (size : ℕ) → IsNumberInRange (with_sign bytes size) → size ≤ 1000000
range_size [] size value = omega (arith, ints, value.0, value.1)
range_size (byte ∷ bytes) size value = elim (cases_Bool (eqb byte 45)) [
  | inl minus ↦ (let at : IsNumberInRange (neg_ℤ (pos size)) = subst IsNumberInRange (cond-true _ (neg_ℤ (pos size)) (pos size) minus) value in omega (arith, ints, at.0, at.1))
  | inr other ↦ (let at : IsNumberInRange (pos size) = subst IsNumberInRange (cond-false _ (neg_ℤ (pos size)) (pos size) other) value in omega (arith, ints, at.0, at.1))
]

pub decimal_outside : (bytes whole fraction : List ℕ)
    → ((one other : List ℕ) → AreParts (unsigned bytes) one other → (one ≡ whole) × (other ≡ fraction)) → (AreDigits whole → AreDigits fraction → length fraction ≤ 3 → 1000000 < thousandths_of whole fraction)
    → (value : ℤ) → SpellsDecimal bytes value → IsNumberInRange value → ⊥
decimal_outside bytes whole fraction are above value spells is_value =
    let once = are spells.whole spells.fraction spells.parts in
    let same : thousandths_of spells.whole spells.fraction ≡ thousandths_of whole fraction =
    ap (λ (xs : List ℕ). thousandths_of xs spells.fraction) once.0 ∙ ap (thousandths_of whole) once.1 in
    let too_much = above (subst AreDigits once.0 spells.parts.1) (subst AreDigits once.1 spells.parts.2) (omega (arith, spells.short, ap length once.1)) in
    omega (arith, too_much, range_size bytes (thousandths_of spells.whole spells.fraction) (subst IsNumberInRange spells.value is_value), same)

-- ---- a number is in range or not

number_cases : (bytes : List ℕ) → IsNumber bytes → IsInRange (Some Number) bytes ⊎ (IsInRange (Some Number) bytes → ⊥)
number_cases bytes (inr infinity) = inl (with_sign bytes 1000000, inr (infinity, refl), size_in_range bytes 1000000 (omega arith))
number_cases bytes (inl digits) = elim (cases_lt 1000000 (digits_value 10 (unsigned bytes))) [
  | inl above ↦ inr (λ found. outside found.0 found.1 found.2 above)
  | inr within ↦ inl (with_sign bytes (digits_value 10 (unsigned bytes)), inl (digits, refl), size_in_range bytes _ within)
]
  where
    outside : (value : ℤ) → SpellsNumber bytes value → IsNumberInRange value → 1000000 < digits_value 10 (unsigned bytes) → ⊥
    outside value (inl spells) is_value above = omega (arith, above, range_size bytes _ (subst IsNumberInRange spells.1 is_value))
    outside value (inr spells) is_value above = infinity_no_amount (Some Number) (unsigned bytes) spells.0 (inl (digits, refl))

decimal_once : (bytes : List ℕ) (decimal : IsDecimal bytes) → (one other : List ℕ) → AreParts (unsigned bytes) one other → (one ≡ decimal.whole) × (other ≡ decimal.fraction)
decimal_once bytes decimal one other parts = parts_once (unsigned bytes) one other decimal.whole decimal.fraction parts decimal.parts

decimal_cases : (bytes : List ℕ) → IsDecimal bytes → IsInRange (Some Decimal) bytes ⊎ (IsInRange (Some Decimal) bytes → ⊥)
decimal_cases bytes decimal = elim (cases_lt 3 (length decimal.fraction)) [
  | inl long ↦ inr (λ found. decimal_outside bytes decimal.whole decimal.fraction (decimal_once bytes decimal) (λ _ _ short. absurd (omega (arith, long, short))) found.0 found.1 found.2)
  | inr short ↦ elim (cases_lt 1000000 (thousandths_of decimal.whole decimal.fraction)) [
    | inl above ↦ inr (λ found. decimal_outside bytes decimal.whole decimal.fraction (decimal_once bytes decimal) (λ _ _ _. above) found.0 found.1 found.2)
    | inr within ↦ inl (
      with_sign bytes (thousandths_of decimal.whole decimal.fraction),
      record { whole = decimal.whole; fraction = decimal.fraction; parts = decimal.parts; short = short; value = refl },
      size_in_range bytes _ within,
    )
  ]
]

pub range_cases : (kind : Option LexKind) (bytes : List ℕ) → IsPiece kind bytes → IsInRange kind bytes ⊎ (IsInRange kind bytes → ⊥)
range_cases (Some Number) bytes number = number_cases bytes number
range_cases (Some Decimal) bytes decimal = decimal_cases bytes decimal
range_cases None bytes gap = inl tt
range_cases (Some Word) bytes spelled = inl tt
range_cases (Some Str) bytes spelled = inl tt
range_cases (Some Include) bytes spelled = inl tt
range_cases (Some BraceOpen) bytes spelled = inl tt
range_cases (Some BraceClose) bytes spelled = inl tt
range_cases (Some ParenOpen) bytes spelled = inl tt
range_cases (Some ParenClose) bytes spelled = inl tt
range_cases (Some BracketOpen) bytes spelled = inl tt
range_cases (Some BracketClose) bytes spelled = inl tt
range_cases (Some Semicolon) bytes spelled = inl tt
range_cases (Some Comma) bytes spelled = inl tt
range_cases (Some Point) bytes spelled = inl tt
range_cases (Some Assign) bytes spelled = inl tt
range_cases (Some Equal) bytes spelled = inl tt
range_cases (Some NotEqual) bytes spelled = inl tt
range_cases (Some DoubleColon) bytes spelled = inl tt
