-- Texts of numbers and of decimals.
use Rattle.std.proofs.Common.{◌≡◌, ℕ, zero, suc, ◌+◌, ◌/◌, ◌%◌, ◌<◌, ◌^◌, ◌↔◌, Bool, true, false, not, ℤ, pos, negsuc, List, [], ◌∷◌, ◌++◌, length, get_or, All, IsTrue, codes, length-append, true≢false, refl, sym, ◌∙◌, ap, subst, inl, inr, arith}
use Rattle.std.specs.Char.{is_ascii_digit}
use Rattle.std.specs.Fmt.{decimal, signed_decimal}
use Rattle.std.specs.List.{AllByRecursion}
use Rattle.std.proofs.lemmas.Bool.Decides.{nat_tests}
use Rattle.std.proofs.lemmas.Fmt.{digits_decimal, decimal_nonempty, first_decimal, decimal_digit, decimal_injective}
use Rattle.std.proofs.lemmas.Int.{ints}
use Rattle.std.proofs.lemmas.List.{get_or-append-add}
use Rattle.std.proofs.lemmas.List.Elements.{All-from_recursion, recursion_from_All}
use Rattle.domain_core.specs.Domain.{IsValue}
use Rattle.eu_name.proofs.Fronts.{Passes, same_fronts}
use Rattle.eu_name.proofs.Numbers.{own}
use Rattle.model_core.specs.Naming.{is_point}
use Rattle.plan_text.specs.Values.{IsPlainNumber, IsNumberWord, IsPlainDecimal, IsDecimalWord, three_digits, thousandths_text, decimal_text}
use Rattle.plan_text.proofs.Points.{goes_on}

-- ---- numbers

pub plain_number : (n : ℕ) → n < 2 ^ 64 → IsPlainNumber (decimal n)
plain_number n small = record {
  some = decimal_nonempty n small;
  all = All-from_recursion (λ byte. IsTrue (is_ascii_digit byte)) (decimal n) (digits_decimal own n small);
  no_zero = first n small;
}
  where
    first : (n : ℕ) → n < 2 ^ 64 → 1 < length (decimal n) → get_or (decimal n) 0 0 ≡ 48 → ⊥
    first zero small long is = let single : length (decimal 0) ≡ 1 = ap length (decimal_digit 0 (omega arith)) in omega (arith, long)
    first (suc n) small long is = omega (arith, first_decimal (suc n) (omega arith) small, is)

-- the text of a number has the form of one
pub number_word : (value : ℤ) → IsValue value → IsNumberWord (signed_decimal value)
number_word (pos n) is = inl (plain_number n (omega (arith, ints, is)))
number_word (negsuc n) is =
    let small : suc n < 2 ^ 64 = omega (arith, ints, is) in
    inr (decimal (suc n), (refl, plain_number (suc n) small, λ zero_only. omega (arith, first_decimal (suc n) (omega arith) small, ap (λ l. get_or l 0 0) zero_only)))

-- ---- the point

digit_no_point : (byte : ℕ) → is_ascii_digit byte ≡ true → goes_on byte ≡ true
digit_no_point byte is = grind (arith, nat_tests)

pub digits_no_point : (digits : List ℕ) → AllByRecursion (λ byte. IsTrue (is_ascii_digit byte)) digits → Passes goes_on digits
digits_no_point [] are = tt
digits_no_point (byte ∷ digits) are = (digit_no_point byte are.0, digits_no_point digits are.1)

plain_no_point : (digits : List ℕ) → IsPlainNumber digits → Passes goes_on digits
plain_no_point digits is = digits_no_point digits (recursion_from_All (λ byte. IsTrue (is_ascii_digit byte)) digits is.all)

without_point : (word : List ℕ) → AllByRecursion (λ byte. is_point byte ≡ false) word → Passes goes_on word
without_point [] are = tt
without_point (byte ∷ word) are = (ap not are.0, without_point word are.1)

-- there is one way to cut a word at its first point
pub cut_same : (word one other front back : List ℕ) → All (λ byte. is_point byte ≡ false) one × (word ≡ one ++ (46 ∷ other)) → Passes goes_on front → word ≡ front ++ (46 ∷ back) → (one ≡ front) × (other ≡ back)
cut_same word one other front back (plain, is) passes same =
    let both = same_fronts goes_on one front (46 ∷ other) (46 ∷ back) (without_point one (recursion_from_All (λ byte. is_point byte ≡ false) one plain)) passes refl refl (sym is ∙ same) in
    let tails : 46 ∷ other ≡ 46 ∷ back = both.1 in
    (both.0, (cc))

-- and none where it has no point
pub no_cut : (word front back : List ℕ) → All (λ byte. is_point byte ≡ false) word → word ≡ front ++ (46 ∷ back) → ⊥
no_cut word front back plain whole =
    let all : All (λ byte. is_point byte ≡ false) (front ++ (46 ∷ back)) = subst (All (λ byte. is_point byte ≡ false)) whole plain in
    let there : get_or (front ++ (46 ∷ back)) (length front + 0) 0 ≡ 46 = get_or-append-add front (46 ∷ back) 0 0 in
    let none : is_point 46 ≡ false = subst (λ b. is_point b ≡ false) there (all (length front + 0) 0 (omega (arith, length-append front (46 ∷ back)))) in
    true≢false none

-- ---- thousandths

digit_code : (d : ℕ) → d < 10 → is_ascii_digit (48 + d) ≡ true
digit_code d small = grind (arith, nat_tests)

pub three_pass : (n : ℕ) → Passes is_ascii_digit (three_digits n)
three_pass n = (digit_code (n / 100 % 10) (omega arith), (digit_code (n / 10 % 10) (omega arith), (digit_code (n % 10) (omega arith), tt)))

three_are_digits : (n : ℕ) → All (λ byte. IsTrue (is_ascii_digit byte)) (three_digits n)
three_are_digits n = All-from_recursion (λ byte. IsTrue (is_ascii_digit byte)) (three_digits n) (three_pass n)

pub plain_thousandths : (n : ℕ) → n < 2 ^ 64 → IsPlainDecimal (thousandths_text n)
plain_thousandths n small =
    record { whole = decimal (n / 1000); digits = three_digits n; is = refl; number = plain_number (n / 1000) (omega arith); three = refl; all = three_are_digits n }

-- the text is cut at its point
pub thousandths_cut : (word one other : List ℕ) (n : ℕ) → n < 2 ^ 64 → All (λ byte. is_point byte ≡ false) one × (word ≡ one ++ (46 ∷ other)) → word ≡ thousandths_text n
    → (one ≡ decimal (n / 1000)) × (other ≡ three_digits n)
thousandths_cut word one other n small cut same = cut_same word one other (decimal (n / 1000)) (three_digits n) cut (plain_no_point (decimal (n / 1000)) (plain_number (n / 1000) (omega arith))) same

pub thousandths_point : (word : List ℕ) (n : ℕ) → All (λ byte. is_point byte ≡ false) word → word ≡ thousandths_text n → ⊥
thousandths_point word n plain same = no_cut word (decimal (n / 1000)) (three_digits n) plain same

-- three digits tell how many thousandths there are beside whole ones
pub three_same : (m n : ℕ) → three_digits m ≡ three_digits n → m % 1000 ≡ n % 1000
three_same m n same =
    let first : 48 + m / 100 % 10 ≡ 48 + n / 100 % 10 = cc in
    let second : 48 + m / 10 % 10 ≡ 48 + n / 10 % 10 = cc in
    let third : 48 + m % 10 ≡ 48 + n % 10 = cc in
    omega (arith, first, second, third)

pub same_three : (m n : ℕ) → m % 1000 ≡ n % 1000 → three_digits m ≡ three_digits n
same_three m n same =
    let first : m / 100 % 10 ≡ n / 100 % 10 = omega (arith, same) in
    let second : m / 10 % 10 ≡ n / 10 % 10 = omega (arith, same) in
    let third : m % 10 ≡ n % 10 = omega (arith, same) in
    λ i. (48 + first i) ∷ (48 + second i) ∷ (48 + third i) ∷ []

-- so a text is that of one number of thousandths
pub thousandths_injective : (m n : ℕ) → m < 2 ^ 64 → n < 2 ^ 64 → thousandths_text m ≡ thousandths_text n → m ≡ n
thousandths_injective m n small small' same =
    let front = plain_no_point (decimal (m / 1000)) (plain_number (m / 1000) (omega arith)) in
    let front' = plain_no_point (decimal (n / 1000)) (plain_number (n / 1000) (omega arith)) in
    let both = same_fronts goes_on (decimal (m / 1000)) (decimal (n / 1000)) (46 ∷ three_digits m) (46 ∷ three_digits n) front front' refl refl same in
    let tails : 46 ∷ three_digits m ≡ 46 ∷ three_digits n = both.1 in
    let digits : three_digits m ≡ three_digits n = cc in
    let whole : m / 1000 ≡ n / 1000 = decimal_injective (m / 1000) (n / 1000) (omega arith) (omega arith) both.0 in
    omega (arith, whole, three_same m n digits)

-- it begins with a digit
no_sign : (digits rest more : List ℕ) → IsPlainNumber digits → digits ++ rest ≡ 45 ∷ more → ⊥
no_sign [] rest more is same = omega (arith, is.some)
no_sign (byte ∷ digits) rest more is same =
    let first : byte ≡ 45 = cc in
    let digit : is_ascii_digit byte ≡ true = (recursion_from_All (λ byte. IsTrue (is_ascii_digit byte)) (byte ∷ digits) is.all).0 in
    true≢false (sym digit ∙ ap is_ascii_digit first)

pub thousandths_no_sign : (n : ℕ) (more : List ℕ) → n < 2 ^ 64 → thousandths_text n ≡ 45 ∷ more → ⊥
thousandths_no_sign n more small same = no_sign (decimal (n / 1000)) (46 ∷ three_digits n) more (plain_number (n / 1000) (omega arith)) same

-- ---- decimals

zero_text : codes "0.000" ≡ thousandths_text 0
zero_text = ap (λ whole. whole ++ (46 ∷ three_digits 0)) (sym (decimal_digit 0 (omega arith)))

-- the text of a decimal has the form of one
pub decimal_word : (value : ℤ) → IsValue value → IsDecimalWord (decimal_text value)
decimal_word (pos n) is = inl (plain_thousandths n (omega (arith, ints, is)))
decimal_word (negsuc n) is =
    let small : suc n < 2 ^ 64 = omega (arith, ints, is) in
    inr (thousandths_text (suc n), (refl, plain_thousandths (suc n) small, λ none. omega (arith, thousandths_injective (suc n) 0 small (omega arith) (none ∙ zero_text))))

-- and is that of one value
pub decimal_text_injective : (one other : ℤ) → IsValue one → IsValue other → decimal_text one ≡ decimal_text other → one ≡ other
decimal_text_injective (pos m) (pos n) is is' same = ap (λ k. pos k) (thousandths_injective m n (omega (arith, ints, is)) (omega (arith, ints, is')) same)
decimal_text_injective (pos m) (negsuc n) is is' same = absurd (thousandths_no_sign m (thousandths_text (suc n)) (omega (arith, ints, is)) same)
decimal_text_injective (negsuc m) (pos n) is is' same = absurd (thousandths_no_sign n (thousandths_text (suc m)) (omega (arith, ints, is')) (sym same))
decimal_text_injective (negsuc m) (negsuc n) is is' same =
    let texts : thousandths_text (suc m) ≡ thousandths_text (suc n) = cc in
    let counts : suc m ≡ suc n = thousandths_injective (suc m) (suc n) (omega (arith, ints, is)) (omega (arith, ints, is')) texts in
    let less : m ≡ n = omega (arith, counts) in
    ap (λ k. negsuc k) less

-- ---- words that have the form

pub decimal_cut : (word one other : List ℕ) (r : Bool) → All (λ byte. is_point byte ≡ false) one × (word ≡ one ++ (46 ∷ other)) → IsPlainNumber one
    → IsTrue r ↔ ((length other ≡ 3) × All (λ byte. IsTrue (is_ascii_digit byte)) other) → IsTrue r ↔ IsPlainDecimal word
decimal_cut word one other r cut number digits = (
  λ holds. let are = digits.0 holds in record { whole = one; digits = other; is = cut.1; number = number; three = are.0; all = are.1 },
  λ is. let same = cut_same word one other is.whole is.digits cut (plain_no_point is.whole is.number) is.is in
      digits.1 (subst (λ l. (length l ≡ 3) × All (λ byte. IsTrue (is_ascii_digit byte)) l) (sym same.1) (is.three, is.all)),
)

pub no_whole : (word one other : List ℕ) (r : Bool) → All (λ byte. is_point byte ≡ false) one × (word ≡ one ++ (46 ∷ other)) → IsTrue r ↔ IsPlainNumber one → r ≡ false → IsTrue r ↔ IsPlainDecimal word
no_whole word one other r cut number fails = (
  λ holds. absurd (true≢false (sym holds ∙ fails)),
  λ is. number.1 (subst IsPlainNumber (sym (cut_same word one other is.whole is.digits cut (plain_no_point is.whole is.number) is.is).0) is.number),
)

pub no_decimal : (word : List ℕ) → All (λ byte. is_point byte ≡ false) word → IsPlainDecimal word → ⊥
no_decimal word plain is = no_cut word is.whole is.digits plain is.is
