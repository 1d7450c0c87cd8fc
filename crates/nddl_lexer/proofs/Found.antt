-- What the scan finds at the front of a text is the longest piece there; where it finds nothing, there is none.
use Rattle.std.proofs.Common.{◌≡◌, ℕ, zero, suc, ◌+◌, ◌<◌, ◌≤◌, Bool, true, false, ◌&&◌, cond, eqb, ◌⊎◌, Option, Some, None, Result, Ok, Err, List, [], ◌∷◌, ◌++◌, length, get_or, take, drop, refl, sym, subst, ◌∙◌, ap, inl, inr, codes, arith}
use Rattle.std.specs.Prelude.{IsTrue, nat_eq}
use Rattle.std.specs.Char.{is_ascii_digit}
use Rattle.std.specs.List.{prefix_len, starts_with}
use Rattle.std.specs.Str.{bytes_eq}
use Rattle.std.proofs.lemmas.Bool.{cases_Bool, cases_eq, cases_lt, both_ways, cond-true, cond-false, cond_both, and_from, and_parts, eqb-true, eq-eqb, ne_eqb}
use Rattle.std.proofs.lemmas.Bool.Decides.{Decides-eqb}
use Rattle.std.proofs.Math.Seq.{take-add}
use Rattle.std.proofs.lemmas.List.{append_assoc, length-append, take_more, length-take-le, get_or_at, get_or_past, get_or-take, get_or_append_left, drop_at}
use Rattle.std.proofs.lemmas.List.Elements.{All-from_recursion}
use Rattle.std.proofs.lemmas.List.Folds.{length-prefix_len}
use Rattle.std.proofs.lemmas.Slice.Eq.{bytes_eq-Decides, starts_is}
use Rattle.eu_name.specs.Word.{is_word_start, is_word_byte}
use Rattle.nddl_lexer.specs.declared.kinds.LexKind.{LexKind}
use Rattle.nddl_lexer.specs.declared.kinds.LexKind.TheVariants.{Word, Number, Decimal, BraceOpen, BraceClose, ParenOpen, ParenClose, BracketOpen, BracketClose, Semicolon, Comma, Point, Assign, Equal, NotEqual, DoubleColon}
use Rattle.nddl_lexer.specs.declared.fronts.Class.{Class}
use Rattle.nddl_lexer.specs.declared.fronts.Class.TheVariants.{Blank, Letter, Digit, Sign, Quote, Hash, Slash, Other}
use Rattle.nddl_lexer.specs.declared.fronts.Front.{Front}
use Rattle.nddl_lexer.specs.declared.fronts.Stop.{Stop}
use Rattle.nddl_lexer.specs.declared.fronts.Stop.TheVariants.{BadByte, OpenComment}
use Rattle.nddl_lexer.specs.Bytes.{is_blank, is_sign, is_quotable, is_in_line, AllPassing, AreDigits, unsigned}
use Rattle.nddl_lexer.specs.Spelling.{AreParts, IsNumber, IsLineComment, IsBlockComment, IsSpelled, IsPiece, Closes}
use Rattle.nddl_lexer.specs.Reading.{IsOpenComment}
use Rattle.nddl_lexer.specs.Scan.{gap_of, lexeme_of, class_of, kind_of_word, word_len, digits_len, begins_with_digit, fraction_len, amount_at, close_len, block_of, double_mark, single_mark, mark_of, front_in}
use Rattle.nddl_lexer.proofs.Prefixes.{prefix_passes, passing_within, passing_is, prefix_first}
use Rattle.nddl_lexer.proofs.Closing.{ClosesFirst, CloseIs, close_is}
use Rattle.nddl_lexer.proofs.Classes.{ClassIs, class_is, digit_not_sign, sign_not_slash, start_is_word_byte}
use Rattle.nddl_lexer.proofs.Shapes.{IsAmount, IsLineRest, IsBlockRest, IsQuoteRest, After}

-- ---- what is to be shown of each class

-- a piece of this class is as long as the front at the most
abbrev pub IsLongest : Class → ℕ → List ℕ → ℕ → Type 0
IsLongest class first rest len = (kind : Option LexKind) (more left : List ℕ) → rest ≡ more ++ left → After class kind first more → suc (length more) ≤ len

pub record IsFound (class : Class) (first : ℕ) (rest : List ℕ) (front : Front) : Type 0 where
  pub spelled : IsPiece front.kind (take front.len (first ∷ rest))
  pub longest : IsLongest class first rest front.len

-- no piece of this class begins here
pub record IsNothing (class : Class) (first : ℕ) (rest : List ℕ) : Type 0 where
  pub nothing : (kind : Option LexKind) (more left : List ℕ) → rest ≡ more ++ left → After class kind first more → ⊥
  pub no_comment : (inside : List ℕ) → first ∷ rest ≡ codes "/*" ++ inside → ⊥

abbrev pub FoundIn : Class → ℕ → List ℕ → Result Front Stop → Type 0
FoundIn class first rest (Ok front) = IsFound class first rest front
FoundIn class first rest (Err BadByte) = IsNothing class first rest
FoundIn class first rest (Err OpenComment) = IsOpenComment (first ∷ rest)

not_slash : (first : ℕ) (rest : List ℕ) → (first ≡ 47 → ⊥) → (inside : List ℕ) → first ∷ rest ≡ codes "/*" ++ inside → ⊥
not_slash first rest other inside same = let slash : first ≡ 47 = cc in other slash

-- ---- blanks and words

in_blank : (first : ℕ) (rest : List ℕ) → is_blank first ≡ true → FoundIn Blank first rest (front_in Blank first rest)
in_blank first rest blank = record {
  spelled = inl (first, blank, refl);
  longest = λ kind more left whole after. omega (arith, ap length after.1);
}

word_front : (first : ℕ) (rest : List ℕ) → is_word_start first ≡ true → take (word_len (first ∷ rest)) (first ∷ rest) ≡ first ∷ take (word_len rest) rest
word_front first rest start = ap (λ (n : ℕ). take n (first ∷ rest)) (prefix_first is_word_byte first rest (start_is_word_byte first start))

word_spelled : (first : ℕ) (rest : List ℕ) → is_word_start first ≡ true → AllPassing is_word_byte rest → IsPiece (Some (kind_of_word (first ∷ rest))) (first ∷ rest)
word_spelled first rest start passes = cond_both (bytes_eq (first ∷ rest) (codes "inf")) Number Word (λ (kind : LexKind). IsSpelled kind (first ∷ rest))
    (λ same. let whole : first ∷ rest ≡ codes "inf" = (bytes_eq-Decides (first ∷ rest) (codes "inf")).0 same in subst IsNumber (sym whole) (inr refl))
    (λ other. (start, All-from_recursion (λ byte. IsTrue (is_word_byte byte)) rest passes, λ same. both_ways _ other ((bytes_eq-Decides (first ∷ rest) (codes "inf")).1 same)))

in_letter : (first : ℕ) (rest : List ℕ) → is_word_start first ≡ true → FoundIn Letter first rest (front_in Letter first rest)
in_letter first rest start = record {
  spelled = subst (λ (bytes : List ℕ). IsPiece (Some (kind_of_word bytes)) bytes) (sym (word_front first rest start)) (word_spelled first (take (word_len rest) rest) start (prefix_passes is_word_byte rest));
  longest = λ kind more left whole after.
      let passes : AllPassing is_word_byte (first ∷ more) = (start_is_word_byte first start, after.1) in
      let same : first ∷ rest ≡ (first ∷ more) ++ left = ap (λ (xs : List ℕ). first ∷ xs) whole in
      omega (arith, passing_within is_word_byte (first ∷ more) left passes, ap word_len same);
}

-- ---- numbers

amount_piece : (kind : Option LexKind) (bytes whole : List ℕ) → unsigned whole ≡ bytes → IsAmount kind bytes → IsPiece kind whole
amount_piece kind bytes whole same (inl digits) = subst (λ kind. IsPiece kind whole) (sym digits.1) (inl (subst AreDigits (sym same) digits.0))
amount_piece kind bytes whole same (inr decimal) = subst (λ kind. IsPiece kind whole) (sym decimal.3)
    (record { whole = decimal.0; fraction = decimal.1; parts = subst (λ (xs : List ℕ). AreParts xs decimal.0 decimal.1) (sym same) decimal.2 })

-- digits at a front, and what follows them
digits_front : (bytes : List ℕ) → begins_with_digit bytes ≡ true → AreDigits (take (digits_len bytes) bytes)
digits_front [] digit = absurd (cc)
digits_front (byte ∷ bytes) digit = (
  subst (λ (n : ℕ). 0 < length (take n (byte ∷ bytes))) (sym (prefix_first is_ascii_digit byte bytes digit)) (omega arith),
  prefix_passes is_ascii_digit (byte ∷ bytes),
)

begins_from : (bytes left : List ℕ) → AreDigits bytes → begins_with_digit (bytes ++ left) ≡ true
begins_from [] left digits = absurd (omega (arith, digits.0))
begins_from (byte ∷ bytes) left digits = digits.1.0

-- digits and a point, as far as they go
pub record HasFraction (bytes : List ℕ) : Type 0 where
  pub digits : List ℕ
  pub parts : bytes ≡ 46 ∷ digits
  pub begins : begins_with_digit digits ≡ true
  pub len : fraction_len bytes ≡ suc (digits_len digits)

fraction_cases : (bytes : List ℕ) → HasFraction bytes ⊎ ((fraction_len bytes ≡ 0) × ((fraction left : List ℕ) → AreDigits fraction → bytes ≡ 46 ∷ (fraction ++ left) → ⊥))
fraction_cases [] = inr (refl, λ fraction left digits same. cc)
fraction_cases (byte ∷ bytes) = elim (cases_Bool ((eqb byte 46) && begins_with_digit bytes)) [
  | inl both ↦
      (let parts = and_parts (eqb byte 46) (begins_with_digit bytes) both in
      inl (record { digits = bytes; parts = ap (λ (x : ℕ). x ∷ bytes) (eqb-true _ _ parts.0); begins = parts.1; len = cond-true _ _ _ both ∙ omega arith }))
  | inr none ↦ inr (
    cond-false _ _ _ none,
    λ fraction left digits same.
        let point : byte ≡ 46 = cc in
        let tails : bytes ≡ fraction ++ left = cc in
        both_ways _ none (and_from (eqb byte 46) (begins_with_digit bytes) (eq-eqb _ _ point) (ap begins_with_digit tails ∙ begins_from fraction left digits)),
  )
]

-- the amount at the front
pub record IsAmountAt (bytes : List ℕ) (front : Front) : Type 0 where
  pub amount : IsAmount front.kind (take front.len bytes)
  pub longest : (kind : Option LexKind) (more left : List ℕ) → bytes ≡ more ++ left → IsAmount kind more → length more ≤ front.len
  pub some : 0 < front.len

-- how long the digits of an amount are
amount_digits : (whole fraction left : List ℕ) → AreDigits whole → digits_len (whole ++ 46 ∷ (fraction ++ left)) ≡ length whole
amount_digits whole fraction left digits = passing_is is_ascii_digit whole 46 (fraction ++ left) digits.1 refl

regroup : (whole fraction left : List ℕ) → (whole ++ 46 ∷ fraction) ++ left ≡ whole ++ 46 ∷ (fraction ++ left)
regroup whole fraction left = append_assoc whole (46 ∷ fraction) left

amount_longest : (bytes : List ℕ) (len : ℕ) → digits_len bytes ≤ len → ((fraction left : List ℕ) → AreDigits fraction → drop (digits_len bytes) bytes ≡ 46 ∷ (fraction ++ left) → digits_len bytes + suc (length fraction) ≤ len)
    → (kind : Option LexKind) (more left : List ℕ) → bytes ≡ more ++ left → IsAmount kind more → length more ≤ len
amount_longest bytes len whole_within fraction_within kind more left same (inl digits) =
    omega (arith, passing_within is_ascii_digit more left digits.0.1, ap digits_len same, whole_within)
amount_longest bytes len whole_within fraction_within kind more left same (inr (whole, fraction, parts, is)) =
    let split : bytes ≡ whole ++ 46 ∷ (fraction ++ left) = same ∙ (ap (λ (xs : List ℕ). xs ++ left) parts.0 ∙ regroup whole fraction left) in
    let digits : digits_len bytes ≡ length whole = ap digits_len split ∙ amount_digits whole fraction left parts.1 in
    let after : drop (digits_len bytes) bytes ≡ 46 ∷ (fraction ++ left) = ap (λ (n : ℕ). drop n bytes) digits ∙ (ap (drop (length whole)) split ∙ drop_at whole (46 ∷ (fraction ++ left)) (length whole) refl) in
    let within = fraction_within fraction left parts.2 after in
    omega (arith, within, digits, ap length parts.0, length-append whole (46 ∷ fraction))

pub amount_found : (bytes : List ℕ) → begins_with_digit bytes ≡ true → IsAmountAt bytes (amount_at bytes)
amount_found bytes digit = elim (fraction_cases (drop (digits_len bytes) bytes)) [
  | inl fraction ↦
      (let front = digits_front bytes digit in
      let other : eqb (fraction_len (drop (digits_len bytes) bytes)) 0 ≡ false = ne_eqb _ _ (λ none. omega (arith, none, fraction.len)) in
      let is : amount_at bytes ≡ lexeme_of Decimal (digits_len bytes + fraction_len (drop (digits_len bytes) bytes)) = cond-false _ _ _ other in
      let behind : take (suc (digits_len fraction.digits)) (drop (digits_len bytes) bytes) ≡ 46 ∷ take (digits_len fraction.digits) fraction.digits = ap (take (suc (digits_len fraction.digits))) fraction.parts in
      let split : take (digits_len bytes + fraction_len (drop (digits_len bytes) bytes)) bytes ≡ take (digits_len bytes) bytes ++ 46 ∷ take (digits_len fraction.digits) fraction.digits =
      take-add (digits_len bytes) (fraction_len (drop (digits_len bytes) bytes)) bytes
      ∙ ap (λ (xs : List ℕ). take (digits_len bytes) bytes ++ xs) (ap (λ (n : ℕ). take n (drop (digits_len bytes) bytes)) fraction.len ∙ behind) in
      subst (IsAmountAt bytes) (sym is) (record {
        amount = inr (take (digits_len bytes) bytes, take (digits_len fraction.digits) fraction.digits, (split, front, digits_front fraction.digits fraction.begins), refl);
        longest = amount_longest bytes _ (omega arith) (λ other left digits same.
            let whole : 46 ∷ fraction.digits ≡ 46 ∷ (other ++ left) = sym fraction.parts ∙ same in
            let tails : fraction.digits ≡ other ++ left = cc in
            omega (arith, passing_within is_ascii_digit other left digits.1, ap digits_len tails, fraction.len));
        some = omega (arith, fraction.len);
      }))
  | inr none ↦
      (let front = digits_front bytes digit in
      let zero_len : eqb (fraction_len (drop (digits_len bytes) bytes)) 0 ≡ true = ap (λ (n : ℕ). eqb n 0) none.0 in
      let is : amount_at bytes ≡ lexeme_of Number (digits_len bytes) = cond-true _ _ _ zero_len in
      subst (IsAmountAt bytes) (sym is) (record {
        amount = inl (front, refl);
        longest = amount_longest bytes (digits_len bytes) (omega arith) (λ other left digits same. absurd (none.1 other left digits same));
        some = omega (arith, front.0, length-prefix_len is_ascii_digit bytes);
      }))
]

digit_unsigned : (n first : ℕ) (rest : List ℕ) → is_ascii_digit first ≡ true → unsigned (take n (first ∷ rest)) ≡ take n (first ∷ rest)
digit_unsigned zero first rest digit = refl
digit_unsigned (suc n) first rest digit = cond-false _ _ _ (digit_not_sign first digit)

in_digit : (first : ℕ) (rest : List ℕ) → is_ascii_digit first ≡ true → FoundIn Digit first rest (front_in Digit first rest)
in_digit first rest digit =
    let found = amount_found (first ∷ rest) digit in
    record {
      spelled = amount_piece _ _ _ (digit_unsigned _ first rest digit) found.amount;
      longest = λ kind more left whole after. found.longest kind (first ∷ more) left (ap (λ (xs : List ℕ). first ∷ xs) whole) after;
    }

-- ---- signs

-- the text begins with these bytes, or it doesn't
starts_cases : (text front : List ℕ) → ((starts_with nat_eq text front ≡ true) × (text ≡ front ++ drop (length front) text)) ⊎ ((starts_with nat_eq text front ≡ false) × ((left : List ℕ) → text ≡ front ++ left → ⊥))
starts_cases text front =
    let is = starts_is Decides-eqb text front (starts_with nat_eq text front) refl in
    elim (cases_Bool (starts_with nat_eq text front)) [
      | inl begins ↦ inl (begins, is.0 begins)
      | inr other ↦ inr (other, λ left same. both_ways _ other (is.1 left same))
    ]

-- an amount begins with a digit
amount_begins : (kind : Option LexKind) (more left : List ℕ) → IsAmount kind more → begins_with_digit (more ++ left) ≡ true
amount_begins kind more left (inl digits) = begins_from more left digits.0
amount_begins kind more left (inr (whole, fraction, parts, is)) =
    ap begins_with_digit (ap (λ (xs : List ℕ). xs ++ left) parts.0 ∙ regroup whole fraction left) ∙ begins_from whole (46 ∷ (fraction ++ left)) parts.1

in_sign : (first : ℕ) (rest : List ℕ) → is_sign first ≡ true → FoundIn Sign first rest (front_in Sign first rest)
in_sign first rest sign = elim (starts_cases rest (codes "inf")) [
  | inl infinity ↦ subst (FoundIn Sign first rest) (sym (cond-true _ _ _ infinity.0)) (record {
    spelled =
        let front : take 3 rest ≡ codes "inf" = ap (take 3) infinity.1 in
        inr (cond-true (is_sign first) (take 3 rest) (first ∷ take 3 rest) sign ∙ front);
    longest = λ kind more left whole after. infinity_longest kind more left whole infinity.1 after;
  })
  | inr none ↦ elim (cases_Bool (begins_with_digit rest)) [
    | inl digit ↦
        (let found = amount_found rest digit in
        subst (FoundIn Sign first rest) (sym (cond-false _ _ _ none.0 ∙ cond-true _ _ _ digit)) (record {
          spelled = subst (λ (n : ℕ). IsPiece (amount_at rest).kind (take n (first ∷ rest))) {x = suc (amount_at rest).len} {y = (amount_at rest).len + 1} (omega arith)
              (amount_piece (amount_at rest).kind (take (amount_at rest).len rest) (first ∷ take (amount_at rest).len rest) (cond-true (is_sign first) _ _ sign) found.amount);
          longest = λ kind more left whole after. elim after [
            | inl infinity ↦ absurd (none.1 left (whole ∙ ap (λ (xs : List ℕ). xs ++ left) infinity.1))
            | inr amount ↦ omega (arith, found.longest kind more left whole amount)
          ];
        }))
    | inr other ↦ subst (FoundIn Sign first rest) (sym (cond-false _ _ _ none.0 ∙ cond-false _ _ _ other)) (record {
      nothing = λ kind more left whole after. elim after [
        | inl infinity ↦ none.1 left (whole ∙ ap (λ (xs : List ℕ). xs ++ left) infinity.1)
        | inr amount ↦ both_ways _ other (ap begins_with_digit whole ∙ amount_begins kind more left amount)
      ];
      no_comment = not_slash first rest (sign_not_slash first sign);
    })
  ]
]
  where
    infinity_longest : (kind : Option LexKind) (more left : List ℕ) → rest ≡ more ++ left → rest ≡ codes "inf" ++ drop 3 rest → After Sign kind first more → suc (length more) ≤ 4
    infinity_longest kind more left whole infinity (inl same) = omega (arith, ap length same.1)
    infinity_longest kind more left whole infinity (inr amount) =
        absurd (both_ways (begins_with_digit rest) (ap begins_with_digit infinity) (ap begins_with_digit whole ∙ amount_begins kind more left amount))

-- ---- strings and `#include`

quote_place : (rest more left : List ℕ) → rest ≡ more ++ left → (quote : IsQuoteRest more) → (prefix_len is_quotable rest ≡ length quote.inside) × (get_or rest (prefix_len is_quotable rest) 0 ≡ 34)
quote_place rest more left whole quote =
    let split : rest ≡ quote.inside ++ 34 ∷ left = whole ∙ (ap (λ (xs : List ℕ). xs ++ left) quote.parts ∙ append_assoc quote.inside (34 ∷ []) left) in
    let len : prefix_len is_quotable rest ≡ length quote.inside = ap (prefix_len is_quotable) split ∙ passing_is is_quotable quote.inside 34 left quote.quotable refl in
    (len, ap (λ (n : ℕ). get_or rest n 0) len ∙ (ap (λ (xs : List ℕ). get_or xs (length quote.inside) 0) split ∙ get_or_at quote.inside 34 left 0 (length quote.inside) refl))

quote_front : (rest : List ℕ) (n : ℕ) → get_or rest n 0 ≡ 34 → take (n + 1) rest ≡ take n rest ++ 34 ∷ []
quote_front rest n quote = elim (cases_lt n (length rest)) [
  | inl inside ↦ take_more rest n 0 inside ∙ ap (λ (x : ℕ). take n rest ++ x ∷ []) quote
  | inr past ↦ absurd (omega (arith, quote, get_or_past rest n 0 past))
]

in_quote : (first : ℕ) (rest : List ℕ) → first ≡ 34 → FoundIn Quote first rest (front_in Quote first rest)
in_quote first rest quote = elim (cases_Bool (eqb (get_or rest (prefix_len is_quotable rest) 0) 34)) [
  | inl closed ↦ subst (FoundIn Quote first rest) (sym (cond-true _ _ _ closed)) (record {
    spelled = record {
      inside = take (prefix_len is_quotable rest) rest;
      parts =
          let len : prefix_len is_quotable rest + 2 ≡ suc (prefix_len is_quotable rest + 1) = omega arith in
          ap (λ (n : ℕ). take n (first ∷ rest)) len ∙ (ap (λ (x : ℕ). x ∷ take (prefix_len is_quotable rest + 1) rest) quote
          ∙ ap (λ (xs : List ℕ). 34 ∷ xs) (quote_front rest (prefix_len is_quotable rest) (eqb-true _ _ closed)));
      quotable = prefix_passes is_quotable rest;
    };
    longest = λ kind more left whole after.
        omega (arith, (quote_place rest more left whole after.1).0, ap length after.1.parts, length-append after.1.inside (34 ∷ []));
  })
  | inr other ↦ subst (FoundIn Quote first rest) (sym (cond-false _ _ _ other)) (record {
    nothing = λ kind more left whole after. both_ways _ other (eq-eqb _ _ (quote_place rest more left whole after.1).1);
    no_comment = not_slash first rest (λ slash. omega (arith, quote, slash));
  })
]

in_hash : (first : ℕ) (rest : List ℕ) → first ≡ 35 → FoundIn Hash first rest (front_in Hash first rest)
in_hash first rest hash = elim (starts_cases rest (codes "include")) [
  | inl begins ↦ subst (FoundIn Hash first rest) (sym (cond-true _ _ _ begins.0)) (record {
    spelled = let front : take 7 rest ≡ codes "include" = ap (take 7) begins.1 in ap (λ (x : ℕ). x ∷ take 7 rest) hash ∙ ap (λ (xs : List ℕ). 35 ∷ xs) front;
    longest = λ kind more left whole after. omega (arith, ap length after.1);
  })
  | inr other ↦ subst (FoundIn Hash first rest) (sym (cond-false _ _ _ other.0)) (record {
    nothing = λ kind more left whole after. other.1 left (whole ∙ ap (λ (xs : List ℕ). xs ++ left) after.1);
    no_comment = not_slash first rest (λ slash. omega (arith, hash, slash));
  })
]

-- ---- comments

line_front : (first : ℕ) (bytes : List ℕ) → first ≡ 47 → IsLineComment (take (prefix_len is_in_line bytes + 2) (first ∷ 47 ∷ bytes))
line_front first bytes slash = record {
  inside = take (prefix_len is_in_line bytes) bytes;
  parts =
      let len : prefix_len is_in_line bytes + 2 ≡ suc (suc (prefix_len is_in_line bytes)) = omega arith in
      ap (λ (n : ℕ). take n (first ∷ 47 ∷ bytes)) len ∙ ap (λ (x : ℕ). x ∷ 47 ∷ take (prefix_len is_in_line bytes) bytes) slash;
  one_line = prefix_passes is_in_line bytes;
}

-- a place is within the bytes where something stands at it
place_within : (bytes : List ℕ) (place : ℕ) → Closes bytes place → place + 1 < length bytes
place_within bytes place closes = elim (cases_lt (place + 1) (length bytes)) [
  | inl inside ↦ inside
  | inr past ↦ absurd (omega (arith, closes.1, get_or_past bytes (place + 1) 0 past))
]

closes_front : (bytes : List ℕ) (place : ℕ) → Closes bytes place → take (place + 2) bytes ≡ take place bytes ++ codes "*/"
closes_front bytes place closes =
    let within = place_within bytes place closes in
    let two : place + 2 ≡ (place + 1) + 1 = omega arith in
    ap (λ (n : ℕ). take n bytes) two
    ∙ (take_more bytes (place + 1) 0 within
    ∙ (ap (λ (xs : List ℕ). xs ++ get_or bytes (place + 1) 0 ∷ []) (take_more bytes place 0 (omega arith) ∙ ap (λ (x : ℕ). take place bytes ++ x ∷ []) closes.0)
    ∙ (ap (λ (x : ℕ). (take place bytes ++ 42 ∷ []) ++ x ∷ []) closes.1 ∙ append_assoc (take place bytes) (42 ∷ []) (47 ∷ []))))

-- what closes a front closes the whole
closes_in_front : (bytes : List ℕ) (n place : ℕ) → place + 1 < n → Closes (take n bytes) place → Closes bytes place
closes_in_front bytes n place within closes = (sym (get_or-take n bytes place 0 (omega arith)) ∙ closes.0, sym (get_or-take n bytes (place + 1) 0 within) ∙ closes.1)

closes_in_whole : (bytes left : List ℕ) (place : ℕ) → place + 1 < length bytes → Closes (bytes ++ left) place → Closes bytes place
closes_in_whole bytes left place within closes =
    (sym (get_or_append_left bytes left 0 place (omega arith)) ∙ closes.0, sym (get_or_append_left bytes left 0 (place + 1) within) ∙ closes.1)

block_front : (first : ℕ) (bytes : List ℕ) (len : ℕ) → first ≡ 47 → ClosesFirst bytes len → IsBlockComment (take (len + 2) (first ∷ 42 ∷ bytes))
block_front first bytes len slash closed = record {
  inside = take closed.place bytes;
  parts =
      let far : len + 2 ≡ suc (suc (closed.place + 2)) = omega (arith, closed.len_is) in
      ap (λ (n : ℕ). take n (first ∷ 42 ∷ bytes)) far
      ∙ (ap (λ (x : ℕ). x ∷ 42 ∷ take (closed.place + 2) bytes) slash ∙ ap (λ (xs : List ℕ). 47 ∷ 42 ∷ xs) (closes_front bytes closed.place closed.closes));
  first = λ place before closes.
      let near : place < closed.place = omega (arith, before, length-take-le closed.place bytes (omega (arith, place_within bytes closed.place closed.closes))) in
      closed.first place near (closes_in_front bytes (closed.place + 2) place (omega arith) (subst (λ (xs : List ℕ). Closes xs place) (sym (closes_front bytes closed.place closed.closes)) closes));
}

block_longest : (bytes left : List ℕ) (len : ℕ) (block : IsBlockRest (42 ∷ bytes)) → ClosesFirst (bytes ++ left) len → length bytes ≤ len
block_longest bytes left len block closed = elim (cases_lt closed.place (length block.inside)) [
  | inl early ↦
      (let whole : 42 ∷ bytes ≡ 42 ∷ (block.inside ++ codes "*/") = block.parts in
      let same : bytes ≡ block.inside ++ codes "*/" = cc in
      let size = ap length same ∙ length-append block.inside (codes "*/") in
      absurd (block.first closed.place early (subst (λ (xs : List ℕ). Closes xs closed.place) same (closes_in_whole bytes left closed.place (omega (arith, size, early)) closed.closes))))
  | inr late ↦ omega (arith, late, closed.len_is, ap length block.parts, length-append block.inside (codes "*/"))
]

pub block_closes : (bytes left : List ℕ) (block : IsBlockRest (42 ∷ bytes)) → Closes (bytes ++ left) (length block.inside)
block_closes bytes left block =
    let whole : 42 ∷ bytes ≡ 42 ∷ (block.inside ++ codes "*/") = block.parts in
    let same : bytes ≡ block.inside ++ codes "*/" = cc in
    let split : bytes ++ left ≡ block.inside ++ 42 ∷ 47 ∷ left = ap (λ (xs : List ℕ). xs ++ left) same ∙ append_assoc block.inside (codes "*/") left in
    let further : block.inside ++ 42 ∷ 47 ∷ left ≡ (block.inside ++ 42 ∷ []) ++ 47 ∷ left = sym (append_assoc block.inside (42 ∷ []) (47 ∷ left)) in (
      ap (λ (xs : List ℕ). get_or xs (length block.inside) 0) split ∙ get_or_at block.inside 42 (47 ∷ left) 0 (length block.inside) refl,
      ap (λ (xs : List ℕ). get_or xs (length block.inside + 1) 0) (split ∙ further) ∙ get_or_at (block.inside ++ 42 ∷ []) 47 left 0 (length block.inside + 1) (length-append block.inside (42 ∷ [])),
    )

-- the second byte of a comment
pub line_second : (second : ℕ) (bytes more left : List ℕ) → second ∷ bytes ≡ more ++ left → IsLineRest more → second ≡ 47
line_second second bytes more left whole line = let same : second ∷ bytes ≡ 47 ∷ (line.inside ++ left) = whole ∙ ap (λ (xs : List ℕ). xs ++ left) line.parts in cc

block_second : (second : ℕ) (bytes more left : List ℕ) → second ∷ bytes ≡ more ++ left → IsBlockRest more → second ≡ 42
block_second second bytes more left whole block = let same : second ∷ bytes ≡ 42 ∷ ((block.inside ++ codes "*/") ++ left) = whole ∙ ap (λ (xs : List ℕ). xs ++ left) block.parts in cc

in_line : (first : ℕ) (bytes : List ℕ) → first ≡ 47 → FoundIn Slash first (47 ∷ bytes) (Ok (gap_of (prefix_len is_in_line bytes + 2)))
in_line first bytes slash = record {
  spelled = inr (inl (line_front first bytes slash));
  longest = λ kind more left whole after. elim after.1 [
    | inl line ↦
        (let same : 47 ∷ bytes ≡ 47 ∷ (line.inside ++ left) = whole ∙ ap (λ (xs : List ℕ). xs ++ left) line.parts in
        let tails : bytes ≡ line.inside ++ left = cc in
        omega (arith, passing_within is_in_line line.inside left line.one_line, ap (prefix_len is_in_line) tails, ap length line.parts))
    | inr block ↦ absurd (omega (arith, block_second 47 bytes more left whole block))
  ];
}

in_block : (first : ℕ) (bytes : List ℕ) → first ≡ 47 → (found : Option ℕ) → CloseIs bytes found → FoundIn Slash first (42 ∷ bytes) (block_of found)
in_block first bytes slash None unclosed = record {
  inside = bytes;
  parts = ap (λ (x : ℕ). x ∷ 42 ∷ bytes) slash;
  open_ended = unclosed;
}
in_block first bytes slash (Some len) closed = record {
  spelled = inr (inr (block_front first bytes len slash closed));
  longest = λ kind more left whole after. elim after.1 [
    | inl line ↦ absurd (omega (arith, line_second 42 bytes more left whole line))
    | inr block ↦ go more left whole block
  ];
}
  where
    go : (more left : List ℕ) → 42 ∷ bytes ≡ more ++ left → IsBlockRest more → suc (length more) ≤ len + 2
    go [] left whole block = omega arith
    go (x ∷ xs) left whole block =
        let star : x ≡ 42 = cc in
        let tails : bytes ≡ xs ++ left = cc in
        let block' : IsBlockRest (42 ∷ xs) = subst (λ (n : ℕ). IsBlockRest (n ∷ xs)) star block in
        omega (arith, block_longest xs left len block' (subst (λ (ys : List ℕ). ClosesFirst ys len) tails closed))

no_comment_after : (first : ℕ) (rest : List ℕ) → ((bytes : List ℕ) → rest ≡ 47 ∷ bytes → ⊥) → ((bytes : List ℕ) → rest ≡ 42 ∷ bytes → ⊥) → IsNothing Slash first rest
no_comment_after first rest no_line no_block = record {
  nothing = λ kind more left whole after. elim after.1 [
    | inl line ↦ no_line _ (whole ∙ ap (λ (xs : List ℕ). xs ++ left) line.parts)
    | inr block ↦ no_block _ (whole ∙ ap (λ (xs : List ℕ). xs ++ left) block.parts)
  ];
  no_comment = λ inside same. let tails : rest ≡ 42 ∷ inside = cc in no_block inside tails;
}

in_slash : (first : ℕ) (rest : List ℕ) → first ≡ 47 → FoundIn Slash first rest (front_in Slash first rest)
in_slash first [] slash = no_comment_after first [] (λ bytes same. cc) (λ bytes same. cc)
in_slash first (second ∷ bytes) slash = elim (cases_eq second 47) [
  | inl line ↦
      (let is : front_in Slash first (second ∷ bytes) ≡ Ok (gap_of (prefix_len is_in_line bytes + 2)) = cond-true _ _ _ (eq-eqb _ _ line) in
      subst (FoundIn Slash first (second ∷ bytes)) (sym is)
      (subst (λ (x : ℕ). FoundIn Slash first (x ∷ bytes) (Ok (gap_of (prefix_len is_in_line bytes + 2)))) (sym line) (in_line first bytes slash)))
  | inr no_line ↦ elim (cases_eq second 42) [
    | inl block ↦
        (let is : front_in Slash first (second ∷ bytes) ≡ block_of (close_len bytes) = cond-false _ _ _ (ne_eqb _ _ no_line) ∙ cond-true _ _ _ (eq-eqb _ _ block) in
        subst (FoundIn Slash first (second ∷ bytes)) (sym is)
        (subst (λ (x : ℕ). FoundIn Slash first (x ∷ bytes) (block_of (close_len bytes))) (sym block) (in_block first bytes slash (close_len bytes) (close_is bytes))))
    | inr no_block ↦
        (let is : front_in Slash first (second ∷ bytes) ≡ Err BadByte = cond-false _ _ _ (ne_eqb _ _ no_line) ∙ cond-false _ _ _ (ne_eqb _ _ no_block) in
        subst (FoundIn Slash first (second ∷ bytes)) (sym is)
        (no_comment_after first (second ∷ bytes) (λ more same. let at : second ≡ 47 = cc in no_line at) (λ more same. let at : second ≡ 42 = cc in no_block at)))
  ]
]

-- ---- marks

-- the first test that holds
pub either : {A : Type 0} (test : Bool) (one other : A) (found : A) → cond test one other ≡ found → ((test ≡ true) × (one ≡ found)) ⊎ (other ≡ found)
either test one other found same = elim (cases_Bool test) [
  | inl holds ↦ inl (holds, sym (cond-true test one other holds) ∙ same)
  | inr fails ↦ inr (sym (cond-false test one other fails) ∙ same)
]

-- where the mark is this one, so is its spelling
single_is : (byte n : ℕ) (mark kind : LexKind) → (eqb byte n ≡ true) × (Some mark ≡ Some kind) → IsSpelled mark (n ∷ []) → IsSpelled kind (byte ∷ [])
single_is byte n mark kind same spelled =
    let heads : Some mark ≡ Some kind = same.1 in
    let at : mark ≡ kind = cc in
    subst (λ (kind : LexKind). IsSpelled kind (byte ∷ [])) at (subst (λ (x : ℕ). IsSpelled mark (x ∷ [])) (sym (eqb-true _ _ same.0)) spelled)

single_spelled : (byte : ℕ) (kind : LexKind) → single_mark byte ≡ Some kind → IsSpelled kind (byte ∷ [])
single_spelled byte kind same =
    elim (either (eqb byte 123) _ _ _ same) [
      | inl is ↦ single_is byte 123 BraceOpen kind is refl
      | inr next ↦ elim (either (eqb byte 125) _ _ _ next) [
        | inl is ↦ single_is byte 125 BraceClose kind is refl
        | inr next ↦ elim (either (eqb byte 40) _ _ _ next) [
          | inl is ↦ single_is byte 40 ParenOpen kind is refl
          | inr next ↦ elim (either (eqb byte 41) _ _ _ next) [
            | inl is ↦ single_is byte 41 ParenClose kind is refl
            | inr next ↦ elim (either (eqb byte 91) _ _ _ next) [
              | inl is ↦ single_is byte 91 BracketOpen kind is refl
              | inr next ↦ elim (either (eqb byte 93) _ _ _ next) [
                | inl is ↦ single_is byte 93 BracketClose kind is refl
                | inr next ↦ elim (either (eqb byte 59) _ _ _ next) [
                  | inl is ↦ single_is byte 59 Semicolon kind is refl
                  | inr next ↦ elim (either (eqb byte 44) _ _ _ next) [
                    | inl is ↦ single_is byte 44 Comma kind is refl
                    | inr next ↦ elim (either (eqb byte 46) _ _ _ next) [
                      | inl is ↦ single_is byte 46 Point kind is refl
                      | inr next ↦ elim (either (eqb byte 61) _ _ _ next) [
                        | inl is ↦ single_is byte 61 Assign kind is refl
                        | inr next ↦ absurd (cc)
                      ]
                    ]
                  ]
                ]
              ]
            ]
          ]
        ]
      ]
    ]

double_is : (first second m n : ℕ) (mark kind : LexKind) → (((eqb first m) && (eqb second n)) ≡ true) × (Some mark ≡ Some kind) → IsSpelled mark (m ∷ n ∷ []) → IsSpelled kind (first ∷ second ∷ [])
double_is first second m n mark kind same spelled =
    let parts = and_parts (eqb first m) (eqb second n) same.0 in
    let heads : Some mark ≡ Some kind = same.1 in
    let at : mark ≡ kind = cc in
    subst (λ (kind : LexKind). IsSpelled kind (first ∷ second ∷ [])) at
    (subst (λ (x : ℕ). IsSpelled mark (x ∷ second ∷ [])) (sym (eqb-true _ _ parts.0)) (subst (λ (x : ℕ). IsSpelled mark (m ∷ x ∷ [])) (sym (eqb-true _ _ parts.1)) spelled))

double_spelled : (first second : ℕ) (kind : LexKind) → double_mark first second ≡ Some kind → IsSpelled kind (first ∷ second ∷ [])
double_spelled first second kind same =
    elim (either ((eqb first 61) && (eqb second 61)) _ _ _ same) [
      | inl is ↦ double_is first second 61 61 Equal kind is refl
      | inr next ↦ elim (either ((eqb first 33) && (eqb second 61)) _ _ _ next) [
        | inl is ↦ double_is first second 33 61 NotEqual kind is refl
        | inr next ↦ elim (either ((eqb first 58) && (eqb second 58)) _ _ _ next) [
          | inl is ↦ double_is first second 58 58 DoubleColon kind is refl
          | inr next ↦ absurd (cc)
        ]
      ]
    ]

some_or_none : {A : Type 0} (found : Option A) → ((x : A) × (found ≡ Some x)) ⊎ (found ≡ None)
some_or_none None = inr refl
some_or_none (Some x) = inl (x, refl)

-- no mark of one byte, and none of two with the byte that follows
marks_none : (first : ℕ) (rest : List ℕ) → (first ≡ 47 → ⊥) → single_mark first ≡ None → ((second : ℕ) (left : List ℕ) → rest ≡ second ∷ left → double_mark first second ≡ None) → IsNothing Other first rest
marks_none first rest other no_single no_double = record {
  nothing = λ kind more left whole after. elim after.2 [
    | inl single ↦ (let same : None ≡ Some after.0 = sym no_single ∙ single.1 in cc)
    | inr double ↦ (let same : None ≡ Some after.0 = sym (no_double double.0 left (whole ∙ ap (λ (xs : List ℕ). xs ++ left) double.1)) ∙ double.2 in cc)
  ];
  no_comment = not_slash first rest other;
}

mark_longest : (first : ℕ) (rest : List ℕ) → ((second : ℕ) (left : List ℕ) → rest ≡ second ∷ left → double_mark first second ≡ None) → IsLongest Other first rest 1
mark_longest first rest no_double kind more left whole after = elim after.2 [
  | inl single ↦ omega (arith, ap length single.0)
  | inr double ↦ (let same : None ≡ Some after.0 = sym (no_double double.0 left (whole ∙ ap (λ (xs : List ℕ). xs ++ left) double.1)) ∙ double.2 in absurd cc)
]

-- with no mark of two bytes
in_single : (first : ℕ) (rest : List ℕ) → (first ≡ 47 → ⊥) → ((second : ℕ) (left : List ℕ) → rest ≡ second ∷ left → double_mark first second ≡ None) → FoundIn Other first rest (mark_of None (single_mark first))
in_single first rest other no_double = elim (some_or_none (single_mark first)) [
  | inl single ↦ subst (λ (found : Option LexKind). FoundIn Other first rest (mark_of None found)) (sym single.1)
      (record { spelled = single_spelled first single.0 single.1; longest = mark_longest first rest no_double })
  | inr none ↦ subst (λ (found : Option LexKind). FoundIn Other first rest (mark_of None found)) (sym none) (marks_none first rest other none no_double)
]

in_other : (first : ℕ) (rest : List ℕ) → (first ≡ 47 → ⊥) → FoundIn Other first rest (front_in Other first rest)
in_other first [] other = in_single first [] other (λ second left same. absurd (cc))
in_other first (second ∷ bytes) other = elim (some_or_none (double_mark first second)) [
  | inl double ↦ subst (λ (found : Option LexKind). FoundIn Other first (second ∷ bytes) (mark_of found (single_mark first))) (sym double.1)
      (record {
        spelled = double_spelled first second double.0 double.1;
        longest = λ kind more left whole after. elim after.2 [ inl single ↦ omega (arith, ap length single.0) | inr two ↦ omega (arith, ap length two.1) ];
      })
  | inr none ↦ subst (λ (found : Option LexKind). FoundIn Other first (second ∷ bytes) (mark_of found (single_mark first))) (sym none)
      (in_single first (second ∷ bytes) other (λ x left same. let at : second ≡ x = cc in ap (double_mark first) (sym at) ∙ none))
]

-- ---- any byte

in_class : (class : Class) (first : ℕ) (rest : List ℕ) → ClassIs first class → FoundIn class first rest (front_in class first rest)
in_class Blank first rest is = in_blank first rest is
in_class Letter first rest is = in_letter first rest is
in_class Digit first rest is = in_digit first rest is
in_class Sign first rest is = in_sign first rest is
in_class Quote first rest is = in_quote first rest is
in_class Hash first rest is = in_hash first rest is
in_class Slash first rest is = in_slash first rest is
in_class Other first rest is = in_other first rest is

pub found_in : (first : ℕ) (rest : List ℕ) → FoundIn (class_of first) first rest (front_in (class_of first) first rest)
found_in first rest = in_class (class_of first) first rest (class_is first)
