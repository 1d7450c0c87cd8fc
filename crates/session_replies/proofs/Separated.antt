-- Words without a blank.
use Rattle.std.proofs.Common.{◌≡◌, ℕ, ◌/◌, ◌<◌, ◌^◌, true, false, ℤ, pos, negsuc, suc, List, [], ◌∷◌, ◌++◌, length, refl, sym, ap, ◌∙◌, subst, inl, inr, IsTrue, codes, arith, length-append}
use Rattle.std.specs.Char.{is_ascii_digit}
use Rattle.std.specs.Fmt.{decimal, signed_decimal}
use Rattle.std.specs.List.{AllByRecursion, flat_map, join_with_byte}
use Rattle.std.proofs.lemmas.Bool.Decides.{nat_tests}
use Rattle.std.proofs.lemmas.Fmt.{digits_decimal, decimal_nonempty}
use Rattle.std.proofs.lemmas.Int.{ints}
use Rattle.std.proofs.lemmas.List.{append-nil}
use Rattle.std.proofs.lemmas.List.Elements.{All-from_recursion, recursion_from_All}
use Rattle.domain_core.specs.Domain.{IsValue}
use Rattle.eu_name.specs.declared.name.Step.{Step}
use Rattle.eu_name.specs.declared.name_text.NameText.{NameText}
use Rattle.eu_name.specs.declared.name_text.Tail.{Tail}
use Rattle.eu_name.specs.declared.name_text.Tail.TheVariants as tails
use Rattle.eu_name.specs.Spelling.{IsStep, IsTail, IsWellFormed, step_text, tail_text, ending_text, name_spelling}
use Rattle.eu_name.specs.Word.{IsName, is_word_start, is_word_byte}
use Rattle.eu_name.proofs.Fronts.{Passes}
use Rattle.eu_name.proofs.Numbers.{own}
use Rattle.model_core.specs.Naming.{IsObjectName}
use Rattle.plan_text.specs.Values.{three_digits, thousandths_text, decimal_text}
use Rattle.plan_text.proofs.Decimals.{three_pass}
use Rattle.script_lang.specs.Words.{is_separator, words_of}
use Rattle.session_replies.specs.Lines.{spaced}
use Rattle.script_lang.proofs.Parts.{runs_are_words, blanks_separate}

-- no byte is a blank
abbrev pub NoBlank : List ℕ → Type 0
NoBlank bytes = AllByRecursion (λ byte. is_separator byte ≡ false) bytes

-- a word has a byte, and no blank in it
abbrev pub IsWhole : List ℕ → Type 0
IsWhole word = (0 < length word) × NoBlank word

both : (one other : List ℕ) → NoBlank one → NoBlank other → NoBlank (one ++ other)
both [] other first second = second
both (byte ∷ one) other first second = (first.0, both one other first.1 second)

word_byte : (byte : ℕ) → is_word_byte byte ≡ true → is_separator byte ≡ false
word_byte byte is = grind (arith, nat_tests)

start_byte : (byte : ℕ) → is_word_start byte ≡ true → is_separator byte ≡ false
start_byte byte is = grind (arith, nat_tests)

digit_byte : (byte : ℕ) → is_ascii_digit byte ≡ true → is_separator byte ≡ false
digit_byte byte is = grind (arith, nat_tests)

of_digits : (digits : List ℕ) → Passes is_ascii_digit digits → NoBlank digits
of_digits [] are = tt
of_digits (byte ∷ digits) are = (digit_byte byte are.0, of_digits digits are.1)

of_decimal : (n : ℕ) → n < 2 ^ 64 → NoBlank (decimal n)
of_decimal n small = of_digits (decimal n) (digits_decimal own n small)

-- ---- names

of_rest : (rest : List ℕ) → AllByRecursion (λ byte. IsTrue (is_word_byte byte)) rest → NoBlank rest
of_rest [] are = tt
of_rest (byte ∷ rest) are = (word_byte byte are.0, of_rest rest are.1)

of_name : (name : List ℕ) → IsName name → NoBlank name
of_name [] is = absurd is.0
of_name (first ∷ rest) is = (start_byte first is.0.0, of_rest rest (recursion_from_All (λ byte. IsTrue (is_word_byte byte)) rest is.0.1))

name_some : (name : List ℕ) → IsName name → 0 < length name
name_some [] is = absurd is.0
name_some (first ∷ rest) is = omega arith

-- a name
pub name_whole : (name : List ℕ) → IsName name → IsWhole name
name_whole name is = (name_some name is, of_name name is)

of_step : (step : Step) → IsStep step → NoBlank (step_text step)
of_step step is = (refl, both (decimal step.rule) (codes ":" ++ decimal step.slot) (of_decimal step.rule (omega (arith, is.0))) (refl, of_decimal step.slot (omega (arith, is.1))))

of_steps : (steps : List Step) → AllByRecursion IsStep steps → NoBlank (flat_map step_text steps)
of_steps [] are = tt
of_steps (step ∷ steps) are = both (step_text step) (flat_map step_text steps) (of_step step are.0) (of_steps steps are.1)

of_tail : (tail : Tail) → IsTail tail → NoBlank (tail_text tail)
of_tail tails.None is = tt
of_tail (tails.Part part) is = (refl, of_name part is)
of_tail (tails.Local rule number) is =
    (refl, both (decimal rule) (codes "!" ++ decimal number) (of_decimal rule (omega (arith, is.0))) (refl, of_decimal number (omega (arith, is.1))))

of_ending : (steps : List Step) (tail : Tail) → AllByRecursion IsStep steps → IsTail tail → NoBlank (ending_text steps tail)
of_ending steps tail are is = both (flat_map step_text steps) (tail_text tail) (of_steps steps are) (of_tail tail is)

-- the spelling of a name
pub spelling_whole : (text : NameText) → IsWellFormed text → IsWhole (name_spelling text)
spelling_whole text (inl (label, steps, tail)) = (
  omega (arith, name_some text.label label, length-append text.label (ending_text text.steps text.tail)),
  both text.label (ending_text text.steps text.tail) (of_name text.label label) (of_ending text.steps text.tail (recursion_from_All IsStep text.steps steps) tail),
)
spelling_whole text (inr (label, steps, tail)) =
    let none : NoBlank (ending_text text.steps text.tail) = rw (steps, tail) tt in
    let some : 0 < length text.label = omega (arith, ap length label.2) in (
      omega (arith, some, length-append text.label (ending_text text.steps text.tail)),
      both text.label (ending_text text.steps text.tail) (subst NoBlank (sym label.2) (refl, of_decimal label.0 (omega (arith, label.1)))) none,
    )

-- ---- values

of_joined : (names : List (List ℕ)) → AllByRecursion IsName names → NoBlank (join_with_byte 46 names)
of_joined [] are = tt
of_joined (name ∷ []) are = of_name name are.0
of_joined (name ∷ (other ∷ more)) are = both name (46 ∷ join_with_byte 46 (other ∷ more)) (of_name name are.0) (refl, of_joined (other ∷ more) are.1)

joined_some : (names : List (List ℕ)) → 0 < length names → AllByRecursion IsName names → 0 < length (join_with_byte 46 names)
joined_some [] some are = absurd (omega arith)
joined_some (name ∷ []) some are = name_some name are.0
joined_some (name ∷ (other ∷ more)) some are = omega (arith, name_some name are.0, length-append name (46 ∷ join_with_byte 46 (other ∷ more)))

-- the name of an object
pub object_whole : (name : List ℕ) → IsObjectName name → IsWhole name
object_whole name (names, some, are, is) =
    let all = recursion_from_All IsName names are in
    subst IsWhole (sym is) (joined_some names some all, of_joined names all)

-- a number
pub number_whole : (value : ℤ) → IsValue value → IsWhole (signed_decimal value)
number_whole (pos n) is =
    let small : n < 2 ^ 64 = omega (arith, ints, is) in
    (decimal_nonempty n small, of_decimal n small)
number_whole (negsuc n) is =
    let small : suc n < 2 ^ 64 = omega (arith, ints, is) in
    (omega arith, (refl, of_decimal (suc n) small))

of_thousandths : (n : ℕ) → n < 2 ^ 64 → IsWhole (thousandths_text n)
of_thousandths n small = (
  omega (arith, length-append (decimal (n / 1000)) (46 ∷ three_digits n)),
  both (decimal (n / 1000)) (46 ∷ three_digits n) (of_decimal (n / 1000) (omega arith)) (refl, of_digits (three_digits n) (three_pass n)),
)

-- a decimal
pub decimal_whole : (value : ℤ) → IsValue value → IsWhole (decimal_text value)
decimal_whole (pos n) is = of_thousandths n (omega (arith, ints, is))
decimal_whole (negsuc n) is = (omega arith, (refl, (of_thousandths (suc n) (omega (arith, ints, is))).1))

-- ---- lines

one_word : (word : List ℕ) → IsWhole word → words_of word ≡ word ∷ []
one_word [] is = absurd (omega (arith, is.0))
one_word (first ∷ rest) is = runs_are_words first rest (All-from_recursion (λ byte. is_separator byte ≡ false) (first ∷ rest) is.1)

-- a word, a space, and more words
pub word_then : (word more : List ℕ) → IsWhole word → words_of (word ++ (codes " " ++ more)) ≡ word ∷ words_of more
word_then word more is = blanks_separate word more 32 refl ∙ ap (λ (words : List (List ℕ)). words ++ words_of more) (one_word word is)

pub two_words : (first second : List ℕ) → IsWhole first → IsWhole second → words_of (first ++ (codes " " ++ second)) ≡ first ∷ second ∷ []
two_words first second one other = word_then first second one ∙ ap (λ (words : List (List ℕ)). first ∷ words) (one_word second other)

pub three_words : (first second third : List ℕ) → IsWhole first → IsWhole second → IsWhole third → words_of (first ++ (codes " " ++ (second ++ (codes " " ++ third)))) ≡ first ∷ second ∷ third ∷ []
three_words first second third one other last = word_then first (second ++ (codes " " ++ third)) one ∙ ap (λ (words : List (List ℕ)). first ∷ words) (two_words second third other last)

-- words with single spaces between them
pub spaced_words : (first : List ℕ) (words : List (List ℕ)) → IsWhole first × AllByRecursion IsWhole words → words_of (spaced (first ∷ words)) ≡ first ∷ words
spaced_words first [] are = ap words_of (append-nil first) ∙ one_word first are.0
spaced_words first (next ∷ words) are = word_then first (spaced (next ∷ words)) are.0 ∙ ap (λ (list : List (List ℕ)). first ∷ list) (spaced_words next words are.1)
