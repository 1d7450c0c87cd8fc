-- Words of values and names are ASCII.
use Rattle.std.proofs.Common.{◌≡◌, ℕ, ◌<◌, Bool, true, false, List, [], ◌∷◌, ◌++◌, All, IsTrue, refl, sym, subst, inl, inr, codes, arith}
use Rattle.std.specs.Char.{is_ascii_digit}
use Rattle.std.specs.Fmt.{decimal}
use Rattle.std.specs.List.{AllByRecursion, slice_split, onto_first, flat_map}
use Rattle.std.proofs.lemmas.Bool.Decides.{nat_tests}
use Rattle.std.proofs.lemmas.Fmt.{digits_decimal}
use Rattle.std.proofs.lemmas.List.Elements.{All-from_recursion, recursion_from_All}
use Rattle.eu_name.specs.declared.name.Step.{Step}
use Rattle.eu_name.specs.declared.name_text.NameText.{NameText}
use Rattle.eu_name.specs.declared.name_text.Tail.{Tail}
use Rattle.eu_name.specs.declared.name_text.Tail.TheVariants as tails
use Rattle.eu_name.specs.Spelling.{IsStep, IsTail, IsWellFormed, step_text, tail_text, ending_text, name_spelling}
use Rattle.eu_name.specs.Word.{IsName, is_word_start, is_word_byte}
use Rattle.eu_name.proofs.Fronts.{Passes}
use Rattle.eu_name.proofs.Numbers.{own}
use Rattle.model_core.specs.Naming.{is_point}
use Rattle.plan_text.specs.Values.{IsTruthWord}
use Rattle.script_lang.proofs.Ascii.{digit_is_low, number_is_ascii, decimal_is_ascii}
use Rattle.script_lang.specs.Line.{IsValueWord, IsArgumentWord}

abbrev AreLow : List ℕ → Type 0
AreLow bytes = AllByRecursion (λ byte. byte < 128) bytes

point_is_low : (byte : ℕ) → is_point byte ≡ true → byte < 128
point_is_low byte is = grind (arith, nat_tests)

word_is_low : (byte : ℕ) → is_word_byte byte ≡ true → byte < 128
word_is_low byte is = grind (arith, nat_tests)

start_is_low : (byte : ℕ) → is_word_start byte ≡ true → byte < 128
start_is_low byte is = grind (arith, nat_tests)

rest_is_low : (rest : List ℕ) → AllByRecursion (λ byte. IsTrue (is_word_byte byte)) rest → AreLow rest
rest_is_low [] are = tt
rest_is_low (byte ∷ rest) are = (word_is_low byte are.0, rest_is_low rest are.1)

name_is_low : (name : List ℕ) → IsName name → AreLow name
name_is_low [] is = absurd is.0
name_is_low (first ∷ rest) is = (start_is_low first is.0.0, rest_is_low rest (recursion_from_All (λ byte. IsTrue (is_word_byte byte)) rest is.0.1))

names_are_low : (names : List (List ℕ)) → AllByRecursion IsName names → AllByRecursion AreLow names
names_are_low [] are = tt
names_are_low (name ∷ names) are = (name_is_low name are.0, names_are_low names are.1)

-- a byte put before the first part
onto_low : (byte : ℕ) (parts : List (List ℕ)) → AllByRecursion AreLow (onto_first byte parts) → (byte < 128) × AllByRecursion AreLow parts
onto_low byte [] are = (are.0.0, tt)
onto_low byte (part ∷ parts) are = (are.0.0, (are.0.1, are.1))

whole_at : (byte : ℕ) (word : List ℕ) (v : Bool) → is_point byte ≡ v → (AllByRecursion AreLow (slice_split is_point word) → AreLow word)
    → AllByRecursion AreLow (slice_split is_point (byte ∷ word)) → AreLow (byte ∷ word)
whole_at byte word true e further are = let parts = rw e at are in (point_is_low byte e, further parts.1)
whole_at byte word false e further are = let parts = onto_low byte (slice_split is_point word) (rw e at are) in (parts.0, further parts.1)

-- a word whose parts are low is low
whole_is_low : (word : List ℕ) → AllByRecursion AreLow (slice_split is_point word) → AreLow word
whole_is_low [] are = tt
whole_is_low (byte ∷ word) are = whole_at byte word (is_point byte) refl (whole_is_low word) are

low : (word : List ℕ) → AreLow word → All (λ byte. byte < 128) word
low word are = All-from_recursion (λ byte. byte < 128) word are

truth_is_low : (word : List ℕ) → IsTruthWord word → AreLow word
truth_is_low word (inl is) = subst AreLow (sym is) (omega arith, (omega arith, (omega arith, (omega arith, tt))))
truth_is_low word (inr is) = subst AreLow (sym is) (omega arith, (omega arith, (omega arith, (omega arith, (omega arith, tt)))))

pub value_is_low : (word : List ℕ) → IsValueWord word → All (λ byte. byte < 128) word
value_is_low word (inl number) = number_is_ascii word number
value_is_low word (inr (inl decimal)) = decimal_is_ascii word decimal
value_is_low word (inr (inr (inl truth))) = low word (truth_is_low word truth)
value_is_low word (inr (inr (inr path))) = low word (whole_is_low word (names_are_low (slice_split is_point word) (recursion_from_All IsName (slice_split is_point word) path)))

-- ---- names

low_both : (one other : List ℕ) → AreLow one → AreLow other → AreLow (one ++ other)
low_both [] other first second = second
low_both (byte ∷ one) other first second = (first.0, low_both one other first.1 second)

digits_low : (digits : List ℕ) → Passes is_ascii_digit digits → AreLow digits
digits_low [] are = tt
digits_low (byte ∷ digits) are = (digit_is_low byte are.0, digits_low digits are.1)

decimal_low : (n : ℕ) → n < 65536 → AreLow (decimal n)
decimal_low n small = digits_low (decimal n) (digits_decimal own n (omega (arith, small)))

steps_low : (steps : List Step) → AllByRecursion IsStep steps → AreLow (flat_map step_text steps)
steps_low [] are = tt
steps_low (step ∷ steps) are =
    low_both (step_text step) (flat_map step_text steps)
    (omega arith, low_both (decimal step.rule) (codes ":" ++ decimal step.slot) (decimal_low step.rule are.0.0) (omega arith, decimal_low step.slot are.0.1)) (steps_low steps are.1)

tail_low : (tail : Tail) → IsTail tail → AreLow (tail_text tail)
tail_low tails.None is = tt
tail_low (tails.Part part) is = (omega arith, name_is_low part is)
tail_low (tails.Local rule number) is =
    (omega arith, low_both (decimal rule) (codes "!" ++ decimal number) (decimal_low rule is.0) (omega arith, decimal_low number is.1))

spelling_low : (name : NameText) → IsWellFormed name → AreLow (name_spelling name)
spelling_low name (inl (label, steps, tail)) =
    low_both name.label (ending_text name.steps name.tail) (name_is_low name.label label)
    (low_both (flat_map step_text name.steps) (tail_text name.tail) (steps_low name.steps (recursion_from_All IsStep name.steps steps)) (tail_low name.tail tail))
spelling_low name (inr (label, steps, tail)) =
    let none : AreLow (ending_text name.steps name.tail) = rw (steps, tail) tt in
    low_both name.label (ending_text name.steps name.tail) (subst AreLow (sym label.2) (omega arith, decimal_low label.0 label.1)) none

pub argument_is_low : (word : List ℕ) → IsArgumentWord word → All (λ byte. byte < 128) word
argument_is_low word (inl (name, (formed, is))) = low word (subst AreLow (sym is) (spelling_low name formed))
argument_is_low word (inr value) = value_is_low word value
