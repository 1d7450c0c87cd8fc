-- Where the lexemes of a text lie, and what a blank after a lexeme does.
use Rattle.std.proofs.Common.{◌≡◌, ℕ, ◌+◌, ◌-◌, ◌<◌, ◌≤◌, Bool, true, false, ◌&&◌, eqb, ◌⊎◌, Option, Some, None, List, [], ◌∷◌, ◌++◌, length, take, drop, refl, sym, subst, ◌∙◌, ap, inl, inr, codes, arith}
use Rattle.std.specs.Prelude.{slice_range}
use Rattle.std.specs.Char.{is_ascii_digit}
use Rattle.std.specs.List.{prefix_len}
use Rattle.std.proofs.lemmas.Bool.{cases_lt, both_ways, eqb-true, and_parts}
use Rattle.std.proofs.lemmas.Bool.Decides.{nat_tests}
use Rattle.std.proofs.lemmas.List.{append_assoc, length-append, take_at, drop_at}
use Rattle.eu_name.specs.Word.{is_word_byte}
use Rattle.nddl_lexer.specs.declared.kinds.LexKind.{LexKind}
use Rattle.nddl_lexer.specs.declared.kinds.Lexeme.{Lexeme}
use Rattle.nddl_lexer.specs.declared.fronts.Class.{Class}
use Rattle.nddl_lexer.specs.declared.fronts.Class.TheVariants.{Blank, Letter, Digit, Sign, Quote, Hash, Slash, Other}
use Rattle.nddl_lexer.specs.Bytes.{is_blank, is_quotable, AllPassing}
use Rattle.nddl_lexer.specs.Spelling.{IsSpelled, IsPiece, IsInRange}
use Rattle.nddl_lexer.specs.Reading.{Piece, Leads, with_lexeme, lexemes_of, IsLexemeOf, AreLexemesOf, LieInOrder, BlanksSeparate}
use Rattle.nddl_lexer.specs.Scan.{class_of, double_mark}
use Rattle.nddl_lexer.proofs.Prefixes.{passing_is}
use Rattle.nddl_lexer.proofs.Classes.{class_blank}
use Rattle.nddl_lexer.proofs.Shapes.{IsAmount, After, shaped}
use Rattle.nddl_lexer.proofs.Found.{either}
use Rattle.nddl_lexer.proofs.Outcomes.{shaped_at}

-- ---- places

-- the bytes of a piece in what is before and after it
bytes_at : (before bytes after : List ℕ) (at : ℕ) → at ≡ length before → slice_range (before ++ (bytes ++ after)) at (at + length bytes) ≡ bytes
bytes_at before bytes after at place =
    let size : (at + length bytes) - at ≡ length bytes = omega arith in
    ap (λ (n : ℕ). take n (drop at (before ++ (bytes ++ after)))) size
    ∙ (ap (take (length bytes)) (drop_at before (bytes ++ after) at (sym place)) ∙ take_at bytes after (length bytes) refl)

piece_some : (kind : Option LexKind) (bytes : List ℕ) → IsPiece kind bytes → 0 < length bytes
piece_some kind [] spelled = absurd (shaped kind [] spelled)
piece_some kind (byte ∷ bytes) spelled = omega arith

is_lexeme : (before after : List ℕ) (kind : LexKind) (bytes : List ℕ) (at : ℕ) → at ≡ length before → IsSpelled kind bytes → IsInRange (Some kind) bytes
    → IsLexemeOf (before ++ (bytes ++ after)) (record { kind = kind; at = at; len = length bytes })
is_lexeme before after kind bytes at place spelled range =
    let same = sym (bytes_at before bytes after at place) in
    record {
      within = omega (arith, place, length-append before (bytes ++ after), length-append bytes after);
      some = piece_some (Some kind) bytes spelled;
      spelled = subst (IsSpelled kind) same spelled;
      in_range = subst (IsInRange (Some kind)) same range;
    }

-- a lexeme, if the piece is one, before others
lie_first : (text : List ℕ) (kind : Option LexKind) (from at len : ℕ) (lexemes : List Lexeme) → from ≤ at
    → ((is : LexKind) → kind ≡ Some is → IsLexemeOf text (record { kind = is; at = at; len = len })) → ((past : ℕ) → past ≤ at + len → AreLexemesOf text past lexemes)
    → AreLexemesOf text from (with_lexeme kind at len lexemes)
lie_first text None from at len lexemes past is more = more from (omega arith)
lie_first text (Some kind) from at len lexemes past is more = (past, is kind refl, more (at + len) (omega arith))

lie_from : (text before rest : List ℕ) (pieces : List Piece) (at from : ℕ) → text ≡ before ++ rest → at ≡ length before → from ≤ at → Leads rest pieces [] → AreLexemesOf text from (lexemes_of at pieces)
lie_from text before rest [] at from whole place past leads = tt
lie_from text before rest (piece ∷ more) at from whole place past (after, starts, range, leads) =
    let split : text ≡ before ++ (piece.bytes ++ after) = whole ∙ ap (λ (xs : List ℕ). before ++ xs) starts.parts in
    lie_first text piece.kind from at (length piece.bytes) (lexemes_of (at + length piece.bytes) more) past
    (λ is same. subst (λ (xs : List ℕ). IsLexemeOf xs (record { kind = is; at = at; len = length piece.bytes })) (sym split)
    (is_lexeme before after is piece.bytes at place (subst (λ (kind : Option LexKind). IsPiece kind piece.bytes) same starts.spelled) (subst (λ (kind : Option LexKind). IsInRange kind piece.bytes) same range)))
    (λ from' past'. lie_from text (before ++ piece.bytes) after more (at + length piece.bytes) from' (split ∙ sym (append_assoc before piece.bytes after))
    (omega (arith, place, length-append before piece.bytes)) past' leads)

pub lie_in_order : LieInOrder
lie_in_order text lexemes lexes = subst (AreLexemesOf text 0) (sym lexes.2) (lie_from text [] text lexes.0 0 0 refl refl (omega arith) lexes.1)

-- ---- blanks

blank_no_word : (byte : ℕ) → is_blank byte ≡ true → is_word_byte byte ≡ false
blank_no_word byte blank = grind (arith, nat_tests)

blank_no_digit : (byte : ℕ) → is_blank byte ≡ true → is_ascii_digit byte ≡ false
blank_no_digit byte blank = grind (arith, nat_tests)

blank_no : (byte n : ℕ) → is_blank byte ≡ true → is_blank n ≡ false → byte ≡ n → ⊥
blank_no byte n blank other same = both_ways (is_blank n) other (sym (ap is_blank same) ∙ blank)

fails_within : (p : ℕ → Bool) (bytes : List ℕ) (byte : ℕ) (more : List ℕ) → p byte ≡ false → AllPassing p (bytes ++ byte ∷ more) → ⊥
fails_within p [] byte more fails passes = both_ways (p byte) fails passes.0
fails_within p (first ∷ bytes) byte more fails passes = fails_within p bytes byte more fails passes.1

-- a decimal has no blank in it
blank_in_parts : (whole fraction bytes : List ℕ) (blank : ℕ) (more : List ℕ) → AllPassing is_ascii_digit whole → AllPassing is_ascii_digit fraction → is_blank blank ≡ true
    → bytes ++ blank ∷ more ≡ whole ++ 46 ∷ fraction → ⊥
blank_in_parts [] fraction [] blank more digits after separates same = let at : blank ≡ 46 = cc in blank_no blank 46 separates refl at
blank_in_parts [] fraction (byte ∷ bytes) blank more digits after separates same =
    let tails : bytes ++ blank ∷ more ≡ fraction = cc in
    fails_within is_ascii_digit bytes blank more (blank_no_digit blank separates) (subst (AllPassing is_ascii_digit) (sym tails) after)
blank_in_parts (digit ∷ whole) fraction [] blank more digits after separates same =
    let at : blank ≡ digit = cc in
    both_ways (is_ascii_digit blank) (blank_no_digit blank separates) (ap is_ascii_digit at ∙ digits.0)
blank_in_parts (digit ∷ whole) fraction (byte ∷ bytes) blank more digits after separates same =
    let tails : bytes ++ blank ∷ more ≡ whole ++ 46 ∷ fraction = cc in
    blank_in_parts whole fraction bytes blank more digits.1 after separates tails

blank_in_amount : (kind : Option LexKind) (bytes : List ℕ) (blank : ℕ) (more : List ℕ) → is_blank blank ≡ true → IsAmount kind (bytes ++ blank ∷ more) → ⊥
blank_in_amount kind bytes blank more separates (inl digits) = fails_within is_ascii_digit bytes blank more (blank_no_digit blank separates) digits.0.1
blank_in_amount kind bytes blank more separates (inr (whole, fraction, parts, is)) = blank_in_parts whole fraction bytes blank more parts.1.1 parts.2.1 separates parts.0

blank_in_word : (bytes : List ℕ) (blank : ℕ) (more word : List ℕ) → is_blank blank ≡ true → AllPassing is_word_byte word → bytes ++ blank ∷ more ≡ word → ⊥
blank_in_word bytes blank more word separates passes same = fails_within is_word_byte bytes blank more (blank_no_word blank separates) (subst (AllPassing is_word_byte) (sym same) passes)

-- what ends in a quote doesn't go on to another
blank_after_quote : (inside more other : List ℕ) (blank : ℕ) → AllPassing is_quotable inside → AllPassing is_quotable other → (inside ++ 34 ∷ []) ++ blank ∷ more ≡ other ++ 34 ∷ [] → ⊥
blank_after_quote inside more other blank quotable others same =
    let regrouped = append_assoc inside (34 ∷ []) (blank ∷ more) in
    let one = passing_is is_quotable inside 34 (blank ∷ more) quotable refl in
    let two = passing_is is_quotable other 34 [] others refl in
    let lens = ap (prefix_len is_quotable) (sym regrouped ∙ same) in
    omega (arith, one, two, lens, ap length same, length-append (inside ++ 34 ∷ []) (blank ∷ more), length-append inside (34 ∷ []), length-append other (34 ∷ []))

double_second : (first second : ℕ) (kind : LexKind) → double_mark first second ≡ Some kind → (second ≡ 61) ⊎ (second ≡ 58)
double_second first second kind same =
    elim (either ((eqb first 61) && (eqb second 61)) _ _ _ same) [
      | inl is ↦ inl (eqb-true _ _ (and_parts (eqb first 61) (eqb second 61) is.0).1)
      | inr next ↦ elim (either ((eqb first 33) && (eqb second 61)) _ _ _ next) [
        | inl is ↦ inl (eqb-true _ _ (and_parts (eqb first 33) (eqb second 61) is.0).1)
        | inr next ↦ elim (either ((eqb first 58) && (eqb second 58)) _ _ _ next) [
          | inl is ↦ inr (eqb-true _ _ (and_parts (eqb first 58) (eqb second 58) is.0).1)
          | inr next ↦ absurd (cc)
        ]
      ]
    ]

long_in : (bytes : List ℕ) (blank : ℕ) (more : List ℕ) → 0 < length (bytes ++ blank ∷ more)
long_in bytes blank more = omega (arith, length-append bytes (blank ∷ more))

-- no piece goes on over a blank after a lexeme
no_longer : (class : Class) (first : ℕ) (kind : LexKind) (other : Option LexKind) (bytes : List ℕ) (blank : ℕ) (more : List ℕ) → is_blank blank ≡ true
    → After class (Some kind) first bytes → After class other first (bytes ++ blank ∷ more) → ⊥
no_longer Blank first kind other bytes blank more separates p q = let same : Some kind ≡ None = p.0 in cc
no_longer Letter first kind other bytes blank more separates p q = fails_within is_word_byte bytes blank more (blank_no_word blank separates) q.1
no_longer Digit first kind other bytes blank more separates p q = blank_in_amount other (first ∷ bytes) blank more separates q
no_longer Sign first kind other bytes blank more separates p (inl infinity) = blank_in_word bytes blank more (codes "inf") separates (refl, (refl, (refl, tt))) infinity.1
no_longer Sign first kind other bytes blank more separates p (inr amount) = blank_in_amount other bytes blank more separates amount
no_longer Quote first kind other bytes blank more separates p q =
    blank_after_quote p.1.inside more q.1.inside blank p.1.quotable q.1.quotable (ap (λ (xs : List ℕ). xs ++ blank ∷ more) (sym p.1.parts) ∙ q.1.parts)
no_longer Hash first kind other bytes blank more separates p q = omega (arith, ap length p.1, ap length q.1, length-append bytes (blank ∷ more))
no_longer Slash first kind other bytes blank more separates p q = let same : Some kind ≡ None = p.0 in cc
no_longer Other first kind other bytes blank more separates p (mark, is, inl single) = omega (arith, long_in bytes blank more, ap length single.0)
no_longer Other first kind other [] blank more separates p (mark, is, inr (second, same, double)) =
    let at : blank ≡ second = cc in
    elim (double_second first second mark double) [
      | inl equal ↦ blank_no blank 61 separates refl (at ∙ equal)
      | inr colon ↦ blank_no blank 58 separates refl (at ∙ colon)
    ]
no_longer Other first kind other (byte ∷ bytes) blank more separates p (mark, is, inr (second, same, double)) = omega (arith, long_in bytes blank more, ap length same)

-- a longer front takes the shorter one and the byte after it
front_splits : (bytes : List ℕ) (byte : ℕ) (rest other left : List ℕ) → bytes ++ byte ∷ rest ≡ other ++ left → length bytes < length other → (more : List ℕ) × (other ≡ bytes ++ byte ∷ more)
front_splits [] byte rest [] left same longer = absurd (omega arith)
front_splits [] byte rest (x ∷ other) left same longer = let at : x ≡ byte = cc in (other, ap (λ (y : ℕ). y ∷ other) at)
front_splits (x ∷ bytes) byte rest [] left same longer = absurd (omega arith)
front_splits (x ∷ bytes) byte rest (y ∷ other) left same longer =
    let at : y ≡ x = cc in
    let tails : bytes ++ byte ∷ rest ≡ other ++ left = cc in
    let inner = front_splits bytes byte rest other left tails (omega arith) in
    let inner_same : other ≡ bytes ++ byte ∷ inner.0 = inner.1 in
    (inner.0, cc)

blank_ends : (kind : LexKind) (bytes : List ℕ) (blank : ℕ) (rest : List ℕ) (other : Piece) (left : List ℕ) → IsSpelled kind bytes → is_blank blank ≡ true
    → bytes ++ blank ∷ rest ≡ other.bytes ++ left → IsPiece other.kind other.bytes → length bytes < length other.bytes → ⊥
blank_ends kind [] blank rest other left spelled separates whole is longer = shaped (Some kind) [] spelled
blank_ends kind (first ∷ bytes) blank rest other left spelled separates whole is longer =
    let split = front_splits (first ∷ bytes) blank rest other.bytes left whole longer in
    let long : IsPiece other.kind (first ∷ (bytes ++ blank ∷ split.0)) = subst (IsPiece other.kind) split.1 is in
    no_longer (class_of first) first kind other.kind bytes blank split.0 separates (shaped (Some kind) (first ∷ bytes) spelled) (shaped other.kind (first ∷ (bytes ++ blank ∷ split.0)) long)

blank_longest : (blank : ℕ) (rest : List ℕ) (other : Piece) (left : List ℕ) → is_blank blank ≡ true → blank ∷ rest ≡ other.bytes ++ left → IsPiece other.kind other.bytes → length other.bytes ≤ 1
blank_longest blank rest other left separates whole is =
    let at = shaped_at blank rest other.kind other.bytes left whole is in
    let alone : After Blank other.kind blank at.0 = subst (λ (class : Class). After class other.kind blank at.0) (class_blank blank separates) at.3 in
    omega (arith, ap length at.1, ap length alone.1)

pub blanks_separate : BlanksSeparate
blanks_separate = record {
  lexeme = λ kind bytes blank rest spelled separates. record {
    parts = refl;
    spelled = spelled;
    longest = λ other left whole is. elim (cases_lt (length bytes) (length other.bytes)) [
      | inl longer ↦ absurd (blank_ends kind bytes blank rest other left spelled separates whole is longer)
      | inr within ↦ within
    ];
  };
  blank = λ blank rest separates. record {
    parts = refl;
    spelled = inl (blank, separates, refl);
    longest = λ other left whole is. blank_longest blank rest other left separates whole is;
  };
}
