-- Words without a gap.
use Rattle.std.proofs.Common.{◌≡◌, ℕ, ◌/◌, ◌<◌, ◌^◌, true, false, ℤ, pos, negsuc, suc, List, [], ◌∷◌, ◌++◌, length, refl, sym, ap, subst, inl, inr, IsTrue, codes, arith, length-append}
use Rattle.std.specs.Char.{is_ascii_digit}
use Rattle.std.specs.Fmt.{decimal, signed_decimal}
use Rattle.std.specs.List.{AllByRecursion, flat_map, join_with_byte}
use Rattle.std.proofs.lemmas.Bool.Decides.{nat_tests}
use Rattle.std.proofs.lemmas.Fmt.{digits_decimal, decimal_nonempty}
use Rattle.std.proofs.lemmas.Int.{ints}
use Rattle.std.proofs.lemmas.List.Elements.{All-from_recursion, recursion_from_All}
use Rattle.domain_core.specs.Domain.{IsValue}
use Rattle.eu_name.specs.declared.name.Step.{Step}
use Rattle.eu_name.specs.declared.name_text.NameText.{NameText}
use Rattle.eu_name.specs.declared.name_text.Tail.{Tail}
use Rattle.eu_name.specs.declared.name_text.Tail.TheVariants as tails
use Rattle.eu_name.specs.Spelling.{IsStep, IsTail, IsNumbered, IsWellFormed, step_text, tail_text, ending_text, name_spelling}
use Rattle.eu_name.specs.Word.{IsName, is_word_start, is_word_byte}
use Rattle.eu_name.proofs.Fronts.{Passes}
use Rattle.eu_name.proofs.Numbers.{own}
use Rattle.model_core.specs.Naming.{IsObjectName}
use Rattle.plan_text.specs.Values.{three_digits, thousandths_text, decimal_text}
use Rattle.plan_text.specs.Words.{is_gap, IsUnbroken}
use Rattle.plan_text.proofs.Decimals.{three_pass}

-- no byte is a gap
abbrev pub NoGap : List ℕ → Type 0
NoGap bytes = AllByRecursion (λ byte. is_gap byte ≡ false) bytes

pub no_gap_append : (one other : List ℕ) → NoGap one → NoGap other → NoGap (one ++ other)
no_gap_append [] other first second = second
no_gap_append (byte ∷ one) other first second = (first.0, no_gap_append one other first.1 second)

pub unbroken_from : (word : List ℕ) → 0 < length word → NoGap word → IsUnbroken word
unbroken_from word some none = (some, All-from_recursion (λ byte. is_gap byte ≡ false) word none)

word_byte : (byte : ℕ) → is_word_byte byte ≡ true → is_gap byte ≡ false
word_byte byte is = grind (arith, nat_tests)

start_byte : (byte : ℕ) → is_word_start byte ≡ true → is_gap byte ≡ false
start_byte byte is = grind (arith, nat_tests)

digit_byte : (byte : ℕ) → is_ascii_digit byte ≡ true → is_gap byte ≡ false
digit_byte byte is = grind (arith, nat_tests)

digits_no_gap : (digits : List ℕ) → Passes is_ascii_digit digits → NoGap digits
digits_no_gap [] are = tt
digits_no_gap (byte ∷ digits) are = (digit_byte byte are.0, digits_no_gap digits are.1)

pub decimal_no_gap : (n : ℕ) → n < 2 ^ 64 → NoGap (decimal n)
decimal_no_gap n small = digits_no_gap (decimal n) (digits_decimal own n small)

-- ---- names

rest_no_gap : (rest : List ℕ) → AllByRecursion (λ byte. IsTrue (is_word_byte byte)) rest → NoGap rest
rest_no_gap [] are = tt
rest_no_gap (byte ∷ rest) are = (word_byte byte are.0, rest_no_gap rest are.1)

pub name_no_gap : (name : List ℕ) → IsName name → NoGap name
name_no_gap [] is = absurd is.0
name_no_gap (first ∷ rest) is = (start_byte first is.0.0, rest_no_gap rest (recursion_from_All (λ byte. IsTrue (is_word_byte byte)) rest is.0.1))

pub name_some : (name : List ℕ) → IsName name → 0 < length name
name_some [] is = absurd is.0
name_some (first ∷ rest) is = omega arith

pub name_unbroken : (name : List ℕ) → IsName name → IsUnbroken name
name_unbroken name is = unbroken_from name (name_some name is) (name_no_gap name is)

step_no_gap : (step : Step) → IsStep step → NoGap (step_text step)
step_no_gap step is =
    (refl, no_gap_append (decimal step.rule) (codes ":" ++ decimal step.slot) (decimal_no_gap step.rule (omega (arith, is.0))) (refl, decimal_no_gap step.slot (omega (arith, is.1))))

steps_no_gap : (steps : List Step) → AllByRecursion IsStep steps → NoGap (flat_map step_text steps)
steps_no_gap [] are = tt
steps_no_gap (step ∷ steps) are = no_gap_append (step_text step) (flat_map step_text steps) (step_no_gap step are.0) (steps_no_gap steps are.1)

tail_no_gap : (tail : Tail) → IsTail tail → NoGap (tail_text tail)
tail_no_gap tails.None is = tt
tail_no_gap (tails.Part part) is = (refl, name_no_gap part is)
tail_no_gap (tails.Local rule number) is =
    (refl, no_gap_append (decimal rule) (codes "!" ++ decimal number) (decimal_no_gap rule (omega (arith, is.0))) (refl, decimal_no_gap number (omega (arith, is.1))))

ending_no_gap : (steps : List Step) (tail : Tail) → AllByRecursion IsStep steps → IsTail tail → NoGap (ending_text steps tail)
ending_no_gap steps tail are is = no_gap_append (flat_map step_text steps) (tail_text tail) (steps_no_gap steps are) (tail_no_gap tail is)

numbered_no_gap : (label : List ℕ) → IsNumbered label → NoGap label
numbered_no_gap label is = subst NoGap (sym is.2) (refl, decimal_no_gap is.0 (omega (arith, is.1)))

numbered_some : (label : List ℕ) → IsNumbered label → 0 < length label
numbered_some label is = omega (arith, ap length is.2)

pub spelling_unbroken : (text : NameText) → IsWellFormed text → IsUnbroken (name_spelling text)
spelling_unbroken text (inl (label, steps, tail)) =
    unbroken_from (name_spelling text) (omega (arith, name_some text.label label, length-append text.label (ending_text text.steps text.tail)))
    (no_gap_append text.label (ending_text text.steps text.tail) (name_no_gap text.label label) (ending_no_gap text.steps text.tail (recursion_from_All IsStep text.steps steps) tail))
spelling_unbroken text (inr (label, steps, tail)) =
    let none : NoGap (ending_text text.steps text.tail) = rw (steps, tail) tt in
    unbroken_from (name_spelling text) (omega (arith, numbered_some text.label label, length-append text.label (ending_text text.steps text.tail)))
    (no_gap_append text.label (ending_text text.steps text.tail) (numbered_no_gap text.label label) none)

-- ---- values

joined_no_gap : (names : List (List ℕ)) → AllByRecursion IsName names → NoGap (join_with_byte 46 names)
joined_no_gap [] are = tt
joined_no_gap (name ∷ []) are = name_no_gap name are.0
joined_no_gap (name ∷ (other ∷ more)) are =
    no_gap_append name (46 ∷ join_with_byte 46 (other ∷ more)) (name_no_gap name are.0) (refl, joined_no_gap (other ∷ more) are.1)

joined_some : (names : List (List ℕ)) → 0 < length names → AllByRecursion IsName names → 0 < length (join_with_byte 46 names)
joined_some [] some are = absurd (omega arith)
joined_some (name ∷ []) some are = name_some name are.0
joined_some (name ∷ (other ∷ more)) some are = omega (arith, name_some name are.0, length-append name (46 ∷ join_with_byte 46 (other ∷ more)))

pub object_unbroken : (name : List ℕ) → IsObjectName name → IsUnbroken name
object_unbroken name (names, some, are, is) =
    let all = recursion_from_All IsName names are in
    subst IsUnbroken (sym is) (unbroken_from (join_with_byte 46 names) (joined_some names some all) (joined_no_gap names all))

pub number_unbroken : (value : ℤ) → IsValue value → IsUnbroken (signed_decimal value)
number_unbroken (pos n) is =
    let small : n < 2 ^ 64 = omega (arith, ints, is) in
    unbroken_from (decimal n) (decimal_nonempty n small) (decimal_no_gap n small)
number_unbroken (negsuc n) is =
    let small : suc n < 2 ^ 64 = omega (arith, ints, is) in
    unbroken_from (45 ∷ decimal (suc n)) (omega arith) (refl, decimal_no_gap (suc n) small)

thousandths_no_gap : (n : ℕ) → n < 2 ^ 64 → NoGap (thousandths_text n)
thousandths_no_gap n small =
    no_gap_append (decimal (n / 1000)) (46 ∷ three_digits n) (decimal_no_gap (n / 1000) (omega arith)) (refl, digits_no_gap (three_digits n) (three_pass n))

thousandths_some : (n : ℕ) → 0 < length (thousandths_text n)
thousandths_some n = omega (arith, length-append (decimal (n / 1000)) (46 ∷ three_digits n))

pub decimal_unbroken : (value : ℤ) → IsValue value → IsUnbroken (decimal_text value)
decimal_unbroken (pos n) is = unbroken_from (thousandths_text n) (thousandths_some n) (thousandths_no_gap n (omega (arith, ints, is)))
decimal_unbroken (negsuc n) is = unbroken_from (45 ∷ thousandths_text (suc n)) (omega arith) (refl, thousandths_no_gap (suc n) (omega (arith, ints, is)))
