-- What the first byte of a lexeme, blank or comment says of its kind and of the bytes after it.
use Rattle.std.proofs.Common.{◌≡◌, ℕ, ◌<◌, ◌⊎◌, Option, Some, None, List, [], ◌∷◌, ◌++◌, length, refl, sym, subst, ◌∙◌, ap, inl, inr, codes, arith}
use Rattle.std.specs.Prelude.{IsTrue}
use Rattle.std.specs.Char.{is_ascii_digit}
use Rattle.std.specs.Str.{bytes_eq}
use Rattle.std.proofs.lemmas.Bool.{cases_Bool, both_ways, cond-true, cond-false, false_from_ne_true}
use Rattle.std.proofs.lemmas.List.Elements.{recursion_from_All}
use Rattle.std.proofs.lemmas.Slice.Eq.{bytes_eq-Decides}
use Rattle.eu_name.specs.Word.{is_word_byte, IsWord}
use Rattle.nddl_lexer.specs.declared.kinds.LexKind.{LexKind}
use Rattle.nddl_lexer.specs.declared.kinds.LexKind.TheVariants.{Word, Number, Decimal, Str, Include, BraceOpen, BraceClose, ParenOpen, ParenClose, BracketOpen, BracketClose, Semicolon, Comma, Point, Assign, Equal, NotEqual, DoubleColon}
use Rattle.nddl_lexer.specs.declared.fronts.Class.{Class}
use Rattle.nddl_lexer.specs.declared.fronts.Class.TheVariants.{Blank, Letter, Digit, Sign, Quote, Hash, Slash, Other}
use Rattle.nddl_lexer.specs.Bytes.{is_sign, is_quotable, is_in_line, AllPassing, AreDigits, unsigned}
use Rattle.nddl_lexer.specs.Spelling.{AreParts, IsNumber, IsGap, IsPiece, Closes}
use Rattle.nddl_lexer.specs.Scan.{class_of, kind_of_word, single_mark, double_mark}
use Rattle.nddl_lexer.proofs.Classes.{class_blank, class_letter, class_digit, class_sign}

-- digits, with a point and digits after them or not
abbrev pub IsAmount : Option LexKind → List ℕ → Type 0
IsAmount kind bytes = (AreDigits bytes × (kind ≡ Some Number)) ⊎ ((whole : List ℕ) × (fraction : List ℕ) × AreParts bytes whole fraction × (kind ≡ Some Decimal))

-- a line comment, and a block comment, after the first byte
pub record IsLineRest (rest : List ℕ) : Type 0 where
  pub inside : List ℕ
  pub parts : rest ≡ 47 ∷ inside
  pub one_line : AllPassing is_in_line inside

pub record IsBlockRest (rest : List ℕ) : Type 0 where
  pub inside : List ℕ
  pub parts : rest ≡ 42 ∷ (inside ++ codes "*/")
  pub first : (place : ℕ) → place < length inside → Closes (inside ++ codes "*/") place → ⊥

pub record IsQuoteRest (rest : List ℕ) : Type 0 where
  pub inside : List ℕ
  pub parts : rest ≡ inside ++ 34 ∷ []
  pub quotable : AllPassing is_quotable inside

-- a mark of one byte, or of two
abbrev pub IsMarkRest : LexKind → ℕ → List ℕ → Type 0
IsMarkRest mark first rest = ((rest ≡ []) × (single_mark first ≡ Some mark)) ⊎ ((second : ℕ) × (rest ≡ second ∷ []) × (double_mark first second ≡ Some mark))

-- what a piece of this kind has after a first byte of this class
abbrev pub After : Class → Option LexKind → ℕ → List ℕ → Type 0
After Blank kind first rest = (kind ≡ None) × (rest ≡ [])
After Letter kind first rest = (kind ≡ Some (kind_of_word (first ∷ rest))) × AllPassing is_word_byte rest
After Digit kind first rest = IsAmount kind (first ∷ rest)
After Sign kind first rest = ((kind ≡ Some Number) × (rest ≡ codes "inf")) ⊎ IsAmount kind rest
After Quote kind first rest = (kind ≡ Some Str) × IsQuoteRest rest
After Hash kind first rest = (kind ≡ Some Include) × (rest ≡ codes "include")
After Slash kind first rest = (kind ≡ None) × (IsLineRest rest ⊎ IsBlockRest rest)
After Other kind first rest = (mark : LexKind) × (kind ≡ Some mark) × IsMarkRest mark first rest

abbrev pub Shaped : Option LexKind → List ℕ → Type 0
Shaped kind [] = ⊥
Shaped kind (first ∷ rest) = After (class_of first) kind first rest

at_class : (kind : Option LexKind) (first : ℕ) (rest : List ℕ) (class : Class) → class_of first ≡ class → After class kind first rest → Shaped kind (first ∷ rest)
at_class kind first rest class same after = subst (λ (class : Class). After class kind first rest) (sym same) after

-- ---- each kind

gap_shaped : (bytes : List ℕ) → IsGap bytes → Shaped None bytes
gap_shaped bytes (inl blank) = subst (Shaped None) (sym blank.2) (at_class None blank.0 [] Blank (class_blank blank.0 blank.1) (refl, refl))
gap_shaped bytes (inr (inl line)) = subst (Shaped None) (sym line.parts) (refl, inl (record { inside = line.inside; parts = refl; one_line = line.one_line }))
gap_shaped bytes (inr (inr block)) = subst (Shaped None) (sym block.parts) (refl, inr (record { inside = block.inside; parts = refl; first = block.first }))

kind_word : (bytes : List ℕ) → (bytes ≡ codes "inf" → ⊥) → kind_of_word bytes ≡ Word
kind_word bytes other = cond-false _ _ _ (false_from_ne_true (bytes_eq bytes (codes "inf")) (λ same. other ((bytes_eq-Decides bytes (codes "inf")).0 same)))

word_shaped : (bytes : List ℕ) → IsWord bytes → Shaped (Some Word) bytes
word_shaped [] word = word
word_shaped (first ∷ rest) word =
    at_class (Some Word) first rest Letter (class_letter first word.0)
    (ap Some (sym (kind_word (first ∷ rest) word.2)), recursion_from_All (λ byte. IsTrue (is_word_byte byte)) rest word.1)

-- an amount alone, by its first byte
amount_shaped : (kind : Option LexKind) (first : ℕ) (rest : List ℕ) → IsAmount kind (first ∷ rest) → Shaped kind (first ∷ rest)
amount_shaped kind first rest (inl digits) = at_class kind first rest Digit (class_digit first digits.0.1.0) (inl digits)
amount_shaped kind first rest (inr ([], fraction, parts, is)) = absurd (omega (arith, parts.1.0))
amount_shaped kind first rest (inr (digit ∷ whole, fraction, parts, is)) =
    let same : first ∷ rest ≡ (digit ∷ whole) ++ 46 ∷ fraction = parts.0 in
    let at : first ≡ digit = cc in
    at_class kind first rest Digit (class_digit first (ap is_ascii_digit at ∙ parts.1.1.0)) (inr (digit ∷ whole, fraction, parts, is))

-- a number or a decimal, by the bytes without its sign
signed_shaped : (kind : Option LexKind) (bytes : List ℕ) → IsAmount kind (unsigned bytes) → Shaped kind bytes
signed_shaped kind [] (inl digits) = omega (arith, digits.0.0)
signed_shaped kind [] (inr (whole, fraction, parts, is)) = nothing whole parts.0
  where
    nothing : (whole : List ℕ) → [] ≡ whole ++ 46 ∷ fraction → ⊥
    nothing [] same = cc
    nothing (x ∷ xs) same = cc
signed_shaped kind (first ∷ rest) amount = elim (cases_Bool (is_sign first)) [
  | inl sign ↦ at_class kind first rest Sign (class_sign first sign) (inr (subst (IsAmount kind) (cond-true (is_sign first) rest (first ∷ rest) sign) amount))
  | inr none ↦ amount_shaped kind first rest (subst (IsAmount kind) (cond-false (is_sign first) rest (first ∷ rest) none) amount)
]

infinity_shaped : (bytes : List ℕ) → unsigned bytes ≡ codes "inf" → Shaped (Some Number) bytes
infinity_shaped [] same = let whole : [] ≡ codes "inf" = same in cc
infinity_shaped (first ∷ rest) same = elim (cases_Bool (is_sign first)) [
  | inl sign ↦ at_class (Some Number) first rest Sign (class_sign first sign) (inl (refl, sym (cond-true (is_sign first) rest (first ∷ rest) sign) ∙ same))
  | inr none ↦
      (let whole : first ∷ rest ≡ codes "inf" = sym (cond-false (is_sign first) rest (first ∷ rest) none) ∙ same in
      subst (Shaped (Some Number)) (sym whole) (refl, (refl, (refl, tt))))
]

number_shaped : (bytes : List ℕ) → IsNumber bytes → Shaped (Some Number) bytes
number_shaped bytes (inl digits) = signed_shaped (Some Number) bytes (inl (digits, refl))
number_shaped bytes (inr infinity) = infinity_shaped bytes infinity

single_shaped : (mark : LexKind) (first : ℕ) (bytes : List ℕ) → bytes ≡ first ∷ [] → class_of first ≡ Other → single_mark first ≡ Some mark → Shaped (Some mark) bytes
single_shaped mark first bytes same class is = subst (Shaped (Some mark)) (sym same) (at_class (Some mark) first [] Other class (mark, refl, inl (refl, is)))

double_shaped : (mark : LexKind) (first second : ℕ) (bytes : List ℕ) → bytes ≡ first ∷ second ∷ [] → class_of first ≡ Other → double_mark first second ≡ Some mark → Shaped (Some mark) bytes
double_shaped mark first second bytes same class is = subst (Shaped (Some mark)) (sym same) (at_class (Some mark) first (second ∷ []) Other class (mark, refl, inr (second, refl, is)))

pub shaped : (kind : Option LexKind) (bytes : List ℕ) → IsPiece kind bytes → Shaped kind bytes
shaped None bytes gap = gap_shaped bytes gap
shaped (Some Word) bytes word = word_shaped bytes word
shaped (Some Number) bytes number = number_shaped bytes number
shaped (Some Decimal) bytes decimal = signed_shaped (Some Decimal) bytes (inr (decimal.whole, decimal.fraction, decimal.parts, refl))
shaped (Some Str) bytes string = subst (Shaped (Some Str)) (sym string.parts) (refl, record { inside = string.inside; parts = refl; quotable = string.quotable })
shaped (Some Include) bytes same = subst (Shaped (Some Include)) (sym same) (refl, refl)
shaped (Some BraceOpen) bytes same = single_shaped BraceOpen 123 bytes same refl refl
shaped (Some BraceClose) bytes same = single_shaped BraceClose 125 bytes same refl refl
shaped (Some ParenOpen) bytes same = single_shaped ParenOpen 40 bytes same refl refl
shaped (Some ParenClose) bytes same = single_shaped ParenClose 41 bytes same refl refl
shaped (Some BracketOpen) bytes same = single_shaped BracketOpen 91 bytes same refl refl
shaped (Some BracketClose) bytes same = single_shaped BracketClose 93 bytes same refl refl
shaped (Some Semicolon) bytes same = single_shaped Semicolon 59 bytes same refl refl
shaped (Some Comma) bytes same = single_shaped Comma 44 bytes same refl refl
shaped (Some Point) bytes same = single_shaped Point 46 bytes same refl refl
shaped (Some Assign) bytes same = single_shaped Assign 61 bytes same refl refl
shaped (Some Equal) bytes same = double_shaped Equal 61 61 bytes same refl refl
shaped (Some NotEqual) bytes same = double_shaped NotEqual 33 61 bytes same refl refl
shaped (Some DoubleColon) bytes same = double_shaped DoubleColon 58 58 bytes same refl refl

-- ---- the bytes have one kind

-- digits before a point have none in them
pub digits_no_point : (bytes whole fraction : List ℕ) → AllPassing is_ascii_digit bytes → bytes ≡ whole ++ 46 ∷ fraction → ⊥
digits_no_point [] [] fraction digits same = cc
digits_no_point [] (x ∷ xs) fraction digits same = cc
digits_no_point (byte ∷ bytes) [] fraction digits same =
    let point : byte ≡ 46 = cc in
    both_ways (is_ascii_digit byte) (ap is_ascii_digit point) digits.0
digits_no_point (byte ∷ bytes) (x ∷ xs) fraction digits same =
    let tails : bytes ≡ xs ++ 46 ∷ fraction = cc in
    digits_no_point bytes xs fraction digits.1 tails

amount_once : (bytes : List ℕ) (one other : Option LexKind) → IsAmount one bytes → IsAmount other bytes → one ≡ other
amount_once bytes one other (inl p) (inl q) = p.1 ∙ sym q.1
amount_once bytes one other (inl p) (inr q) = absurd (digits_no_point bytes q.0 q.1 p.0.1 q.2.0)
amount_once bytes one other (inr p) (inl q) = absurd (digits_no_point bytes p.0 p.1 q.0.1 p.2.0)
amount_once bytes one other (inr p) (inr q) = p.3 ∙ sym q.3

-- `inf` has no digit at its front
pub infinity_no_amount : (kind : Option LexKind) (bytes : List ℕ) → bytes ≡ codes "inf" → IsAmount kind bytes → ⊥
infinity_no_amount kind bytes same amount = nothing (subst (IsAmount kind) same amount)
  where
    nothing : IsAmount kind (codes "inf") → ⊥
    nothing (inl digits) = both_ways (is_ascii_digit 105) refl digits.0.1.0
    nothing (inr ([], fraction, parts, is)) = omega (arith, parts.1.0)
    nothing (inr (digit ∷ whole, fraction, parts, is)) =
        let whole_same : codes "inf" ≡ (digit ∷ whole) ++ 46 ∷ fraction = parts.0 in
        let at : 105 ≡ digit = cc in
        both_ways (is_ascii_digit 105) refl (ap is_ascii_digit at ∙ parts.1.1.0)

some_once : {A : Type 0} (found : Option A) (one other : A) → found ≡ Some one → found ≡ Some other → one ≡ other
some_once found one other p q = let same : Some one ≡ Some other = sym p ∙ q in cc

mark_once : (first : ℕ) (rest : List ℕ) (one other : LexKind) → IsMarkRest one first rest → IsMarkRest other first rest → one ≡ other
mark_once first rest one other (inl p) (inl q) = some_once _ one other p.1 q.1
mark_once first rest one other (inl p) (inr q) = absurd (let same : [] ≡ q.0 ∷ [] = sym p.0 ∙ q.1 in cc)
mark_once first rest one other (inr p) (inl q) = absurd (let same : [] ≡ p.0 ∷ [] = sym q.0 ∙ p.1 in cc)
mark_once first rest one other (inr p) (inr q) =
    let heads : p.0 ∷ [] ≡ q.0 ∷ [] = sym p.1 ∙ q.1 in
    let seconds : p.0 ≡ q.0 = cc in
    some_once _ one other p.2 (ap (double_mark first) seconds ∙ q.2)

after_once : (class : Class) (first : ℕ) (rest : List ℕ) (one other : Option LexKind) → After class one first rest → After class other first rest → one ≡ other
after_once Blank first rest one other p q = p.0 ∙ sym q.0
after_once Letter first rest one other p q = p.0 ∙ sym q.0
after_once Digit first rest one other p q = amount_once (first ∷ rest) one other p q
after_once Sign first rest one other (inl p) (inl q) = p.0 ∙ sym q.0
after_once Sign first rest one other (inl p) (inr q) = absurd (infinity_no_amount other rest p.1 q)
after_once Sign first rest one other (inr p) (inl q) = absurd (infinity_no_amount one rest q.1 p)
after_once Sign first rest one other (inr p) (inr q) = amount_once rest one other p q
after_once Quote first rest one other p q = p.0 ∙ sym q.0
after_once Hash first rest one other p q = p.0 ∙ sym q.0
after_once Slash first rest one other p q = p.0 ∙ sym q.0
after_once Other first rest one other p q = p.1 ∙ (ap Some (mark_once first rest p.0 q.0 p.2 q.2) ∙ sym q.1)

pub one_kind : (bytes : List ℕ) (one other : Option LexKind) → IsPiece one bytes → IsPiece other bytes → one ≡ other
one_kind [] one other p q = absurd (shaped one [] p)
one_kind (first ∷ rest) one other p q = after_once (class_of first) first rest one other (shaped one (first ∷ rest) p) (shaped other (first ∷ rest) q)
