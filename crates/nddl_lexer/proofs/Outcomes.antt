-- Each text has one outcome.
use Rattle.std.proofs.Common.{◌≡◌, ℕ, zero, suc, ◌-◌, ◌<◌, ◌≤◌, ◌⊎◌, Option, Result, Ok, Err, List, [], ◌∷◌, ◌++◌, length, take, drop, refl, sym, subst, ◌∙◌, ap, inl, inr, arith}
use Rattle.std.proofs.lemmas.Bool.{cases_lt}
use Rattle.std.proofs.lemmas.List.{length-append, length-take, length-drop, take-append-drop, nil_from_length}
use Rattle.nddl_lexer.specs.declared.kinds.LexKind.{LexKind}
use Rattle.nddl_lexer.specs.declared.kinds.Lexeme.{Lexeme}
use Rattle.nddl_lexer.specs.declared.kinds.LexFault.{LexFault}
use Rattle.nddl_lexer.specs.declared.kinds.LexFault.TheVariants as faults
use Rattle.nddl_lexer.specs.declared.fronts.Front.{Front}
use Rattle.nddl_lexer.specs.declared.fronts.Stop.{Stop}
use Rattle.nddl_lexer.specs.declared.fronts.Stop.TheVariants.{BadByte, OpenComment}
use Rattle.nddl_lexer.specs.Spelling.{IsPiece, IsInRange, Closes}
use Rattle.nddl_lexer.specs.Reading.{Piece, piece_of, Starts, Leads, lexemes_of, IsBadByte, IsOpenComment, IsOutOfRange, IsFaultFrom, IsOutcome, HasOneOutcome, HasOneReading}
use Rattle.nddl_lexer.specs.Scan.{class_of, front_in, front_of}
use Rattle.nddl_lexer.proofs.Prefixes.{same_fronts}
use Rattle.nddl_lexer.proofs.Sizes.{range_cases}
use Rattle.nddl_lexer.proofs.Shapes.{After, IsLineRest, IsBlockRest, shaped, one_kind}
use Rattle.nddl_lexer.proofs.Found.{IsFound, IsNothing, FoundIn, found_in, block_closes, line_second}

-- ---- what stands at a front

abbrev pub FrontIs : List ℕ → Result Front Stop → Type 0
FrontIs text (Ok front) = Starts text (piece_of front.kind (take front.len text)) (drop front.len text) × (0 < front.len)
FrontIs text (Err BadByte) = 0 < length text → IsBadByte text
FrontIs text (Err OpenComment) = IsOpenComment text

-- the first byte of a piece at a front is the text's
pub shaped_at : (first : ℕ) (rest : List ℕ) (kind : Option LexKind) (bytes left : List ℕ) → first ∷ rest ≡ bytes ++ left → IsPiece kind bytes
    → (more : List ℕ) × (bytes ≡ first ∷ more) × (rest ≡ more ++ left) × After (class_of first) kind first more
shaped_at first rest kind [] left whole spelled = absurd (shaped kind [] spelled)
shaped_at first rest kind (byte ∷ more) left whole spelled =
    let at : byte ≡ first = cc in
    let tails : rest ≡ more ++ left = cc in
    (more, ap (λ (x : ℕ). x ∷ more) at, tails, subst (λ (x : ℕ). After (class_of x) kind x more) at (shaped kind (byte ∷ more) spelled))

piece_some : (kind : Option LexKind) (n : ℕ) (text : List ℕ) → IsPiece kind (take n text) → 0 < n
piece_some kind zero text spelled = absurd (shaped kind [] spelled)
piece_some kind (suc n) text spelled = omega arith

starts_found : (first : ℕ) (rest : List ℕ) (front : Front) → IsFound (class_of first) first rest front → FrontIs (first ∷ rest) (Ok front)
starts_found first rest front found = (
  record {
    parts = sym (take-append-drop front.len (first ∷ rest));
    spelled = found.spelled;
    longest = λ other left whole spelled.
        let at = shaped_at first rest other.kind other.bytes left whole spelled in
        let within = found.longest other.kind at.0 left at.2 at.3 in
        omega (arith, within, ap length at.1, ap length whole, length-append other.bytes left, length-take front.len (first ∷ rest));
  },
  piece_some front.kind front.len (first ∷ rest) found.spelled,
)

nothing_found : (first : ℕ) (rest : List ℕ) → IsNothing (class_of first) first rest → IsBadByte (first ∷ rest)
nothing_found first rest none = record {
  present = omega arith;
  nothing = λ piece left whole spelled. let at = shaped_at first rest piece.kind piece.bytes left whole spelled in none.nothing piece.kind at.0 left at.2 at.3;
  no_comment = none.no_comment;
}

front_from : (first : ℕ) (rest : List ℕ) (found : Result Front Stop) → FoundIn (class_of first) first rest found → FrontIs (first ∷ rest) found
front_from first rest (Ok front) found = starts_found first rest front found
front_from first rest (Err BadByte) found = λ _. nothing_found first rest found
front_from first rest (Err OpenComment) found = found

pub front_is : (text : List ℕ) → FrontIs text (front_of text)
unfolding front_of
front_is [] = λ present. absurd (omega (arith, present))
front_is (first ∷ rest) = front_from first rest (front_in (class_of first) first rest) (found_in first rest)

-- ---- a text goes on in one way

-- equal pieces
same_piece : (one other : Piece) → one.kind ≡ other.kind → one.bytes ≡ other.bytes → one ≡ other
same_piece one other kinds bytes = λ i. record { kind = kinds i; bytes = bytes i }

pub starts_once : (text : List ℕ) (one other : Piece) (rest left : List ℕ) → Starts text one rest → Starts text other left → (one ≡ other) × (rest ≡ left)
starts_once text one other rest left p q =
    let below = q.longest one rest p.parts p.spelled in
    let above = p.longest other left q.parts q.spelled in
    let same = same_fronts one.bytes other.bytes rest left (sym p.parts ∙ q.parts) (omega arith) in
    let kinds = one_kind other.bytes one.kind other.kind (subst (IsPiece one.kind) same.0 p.spelled) q.spelled in
    (same_piece one other kinds same.0, same.1)

-- no piece with a value in range is at the front
abbrev IsStuck : List ℕ → Type 0
IsStuck text = (piece : Piece) (rest : List ℕ) → Starts text piece rest → IsInRange piece.kind piece.bytes → ⊥

stuck_end : IsStuck []
stuck_end piece rest starts range = go piece.bytes starts.parts starts.spelled
  where
    go : (bytes : List ℕ) → [] ≡ bytes ++ rest → IsPiece piece.kind bytes → ⊥
    go [] whole spelled = shaped piece.kind [] spelled
    go (byte ∷ bytes) whole spelled = cc

-- where a comment is open, no piece is
open_nothing : (text : List ℕ) → IsOpenComment text → (piece : Piece) (rest : List ℕ) → text ≡ piece.bytes ++ rest → IsPiece piece.kind piece.bytes → ⊥
open_nothing text opened piece rest whole spelled =
    let at = shaped_at 47 (42 ∷ opened.inside) piece.kind piece.bytes rest (sym opened.parts ∙ whole) spelled in
    go at.0 at.2 at.3.1
  where
    go : (more : List ℕ) → 42 ∷ opened.inside ≡ more ++ rest → IsLineRest more ⊎ IsBlockRest more → ⊥
    go more same (inl line) = omega (arith, line_second 42 opened.inside more rest same line)
    go [] same (inr block) = omega (arith, ap length block.parts)
    go (byte ∷ more) same (inr block) =
        let star : byte ≡ 42 = cc in
        let tails : opened.inside ≡ more ++ rest = cc in
        let block' : IsBlockRest (42 ∷ more) = subst (λ (x : ℕ). IsBlockRest (x ∷ more)) star block in
        opened.open_ended (length block'.inside) (subst (λ (xs : List ℕ). Closes xs (length block'.inside)) (sym tails) (block_closes more rest block'))

out_range : (text : List ℕ) (piece : Piece) (rest : List ℕ) → IsOutOfRange text → Starts text piece rest → IsInRange piece.kind piece.bytes → ⊥
out_range text piece rest out starts range =
    let once = starts_once text out.piece piece out.rest rest out.starts starts in
    out.outside (subst (λ (piece : Piece). IsInRange piece.kind piece.bytes) (sym once.0) range)

fault_stuck : (text : List ℕ) (at : ℕ) (fault : LexFault) → IsFaultFrom text at fault → IsStuck text
fault_stuck text at (faults.BadByte place) bad piece rest starts range = bad.1.nothing piece rest starts.parts starts.spelled
fault_stuck text at (faults.OpenComment place) opened piece rest starts range = open_nothing text opened.1 piece rest starts.parts starts.spelled
fault_stuck text at (faults.OutOfRange place) out piece rest starts range = out_range text piece rest out.1 starts range
fault_stuck text at faults.Memory none piece rest starts range = none

-- the walks to where a text is stuck are one walk
walks_meet : (text : List ℕ) (one other : List Piece) (rest left : List ℕ) → Leads text one rest → Leads text other left → IsStuck rest → IsStuck left → (one ≡ other) × (rest ≡ left)
walks_meet text [] [] rest left p q rest_stuck left_stuck = (refl, sym p ∙ q)
walks_meet text [] (piece ∷ more) rest left p q rest_stuck left_stuck = absurd (rest_stuck piece q.0 (subst (λ (xs : List ℕ). Starts xs piece q.0) p q.1) q.2)
walks_meet text (piece ∷ more) [] rest left p q rest_stuck left_stuck = absurd (left_stuck piece p.0 (subst (λ (xs : List ℕ). Starts xs piece p.0) q p.1) p.2)
walks_meet text (piece ∷ more) (next ∷ others) rest left p q rest_stuck left_stuck =
    let once = starts_once text piece next p.0 q.0 p.1 q.1 in
    let tail : Leads p.0 others left = subst (λ (xs : List ℕ). Leads xs others left) (sym once.1) q.3 in
    let inner = walks_meet p.0 more others rest left p.3 tail rest_stuck left_stuck in
    let first : piece ≡ next = once.0 in
    let then : more ≡ others = inner.0 in
    (cc, inner.1)

-- ---- one outcome

-- an outcome as a walk and what stops it
abbrev Ends : List ℕ → List Piece → List ℕ → Result (List Lexeme) LexFault → Type 0
Ends text pieces rest (Ok lexemes) = (rest ≡ []) × (lexemes ≡ lexemes_of 0 pieces)
Ends text pieces rest (Err fault) = IsFaultFrom rest (length text - length rest) fault

walk_of : (text : List ℕ) (outcome : Result (List Lexeme) LexFault) → IsOutcome text outcome → (pieces : List Piece) × (rest : List ℕ) × Leads text pieces rest × Ends text pieces rest outcome
walk_of text (Ok lexemes) lexes = (lexes.0, [], lexes.1, (refl, lexes.2))
walk_of text (Err fault) is = (is.pieces, is.rest, is.leads, is.cause)

outcome_of : (text : List ℕ) (outcome : Result (List Lexeme) LexFault) (pieces : List Piece) (rest : List ℕ) → Leads text pieces rest → Ends text pieces rest outcome → IsOutcome text outcome
outcome_of text (Ok lexemes) pieces rest leads ends = (pieces, subst (Leads text pieces) ends.0 leads, ends.1)
outcome_of text (Err fault) pieces rest leads ends = record { pieces = pieces; rest = rest; leads = leads; cause = ends }

ends_stuck : (text : List ℕ) (pieces : List Piece) (rest : List ℕ) (outcome : Result (List Lexeme) LexFault) → Ends text pieces rest outcome → IsStuck rest
ends_stuck text pieces rest (Ok lexemes) ends = subst IsStuck (sym ends.0) stuck_end
ends_stuck text pieces rest (Err fault) ends = fault_stuck rest (length text - length rest) fault ends

-- a fault at the end of the text is none
end_no_fault : (at : ℕ) (fault : LexFault) → IsFaultFrom [] at fault → ⊥
end_no_fault at (faults.BadByte place) bad = omega (arith, bad.1.present)
end_no_fault at (faults.OpenComment place) opened = omega (arith, ap length opened.1.parts)
end_no_fault at (faults.OutOfRange place) out = go out.1.piece.bytes out.1.starts.parts out.1.starts.spelled
  where
    go : (bytes : List ℕ) → [] ≡ bytes ++ out.1.rest → IsPiece out.1.piece.kind bytes → ⊥
    go [] whole spelled = shaped out.1.piece.kind [] spelled
    go (byte ∷ bytes) whole spelled = cc
end_no_fault at faults.Memory none = none

open_no_range : (text : List ℕ) → IsOpenComment text → IsOutOfRange text → ⊥
open_no_range text opened out = open_nothing text opened out.piece out.rest out.starts.parts out.starts.spelled

-- two faults at one place are one
fault_once : (text : List ℕ) (at : ℕ) (one other : LexFault) → IsFaultFrom text at one → IsFaultFrom text at other → one ≡ other
fault_once text at (faults.BadByte place) (faults.BadByte other) p q = ap faults.BadByte (p.0 ∙ sym q.0)
fault_once text at (faults.BadByte place) (faults.OpenComment other) p q = absurd (p.1.no_comment q.1.inside q.1.parts)
fault_once text at (faults.BadByte place) (faults.OutOfRange other) p q = absurd (p.1.nothing q.1.piece q.1.rest q.1.starts.parts q.1.starts.spelled)
fault_once text at (faults.BadByte place) faults.Memory p q = absurd q
fault_once text at (faults.OpenComment place) (faults.BadByte other) p q = absurd (q.1.no_comment p.1.inside p.1.parts)
fault_once text at (faults.OpenComment place) (faults.OpenComment other) p q = ap faults.OpenComment (p.0 ∙ sym q.0)
fault_once text at (faults.OpenComment place) (faults.OutOfRange other) p q = absurd (open_no_range text p.1 q.1)
fault_once text at (faults.OpenComment place) faults.Memory p q = absurd q
fault_once text at (faults.OutOfRange place) (faults.BadByte other) p q = absurd (q.1.nothing p.1.piece p.1.rest p.1.starts.parts p.1.starts.spelled)
fault_once text at (faults.OutOfRange place) (faults.OpenComment other) p q = absurd (open_no_range text q.1 p.1)
fault_once text at (faults.OutOfRange place) (faults.OutOfRange other) p q = ap faults.OutOfRange (p.0 ∙ sym q.0)
fault_once text at (faults.OutOfRange place) faults.Memory p q = absurd q
fault_once text at faults.Memory other p q = absurd p

ends_once : (text : List ℕ) (pieces : List Piece) (rest : List ℕ) (one other : Result (List Lexeme) LexFault) → Ends text pieces rest one → Ends text pieces rest other → one ≡ other
ends_once text pieces rest (Ok lexemes) (Ok others) p q = ap Ok (p.1 ∙ sym q.1)
ends_once text pieces rest (Ok lexemes) (Err fault) p q = absurd (end_no_fault (length text - length rest) fault (subst (λ (xs : List ℕ). IsFaultFrom xs (length text - length rest) fault) p.0 q))
ends_once text pieces rest (Err fault) (Ok lexemes) p q = absurd (end_no_fault (length text - length rest) fault (subst (λ (xs : List ℕ). IsFaultFrom xs (length text - length rest) fault) q.0 p))
ends_once text pieces rest (Err fault) (Err other) p q = ap Err (fault_once rest (length text - length rest) fault other p q)

pub outcome_once : (text : List ℕ) (one other : Result (List Lexeme) LexFault) → IsOutcome text one → IsOutcome text other → one ≡ other
outcome_once text one other p q =
    let walk = walk_of text one p in
    let walk' = walk_of text other q in
    let meet = walks_meet text walk.0 walk'.0 walk.1 walk'.1 walk.2 walk'.2 (ends_stuck text walk.0 walk.1 one walk.3) (ends_stuck text walk'.0 walk'.1 other walk'.3) in
    ends_once text walk.0 walk.1 one other walk.3
    (subst (λ (rest : List ℕ). Ends text walk.0 rest other) (sym meet.1) (subst (λ (pieces : List Piece). Ends text pieces walk'.1 other) (sym meet.0) walk'.3))

-- ---- some outcome

-- each text leads somewhere where it ends or is stuck
record IsWalk (text : List ℕ) : Type 0 where
  pieces : List Piece
  rest : List ℕ
  leads : Leads text pieces rest
  stops : (rest ≡ []) ⊎ (IsBadByte rest ⊎ (IsOpenComment rest ⊎ IsOutOfRange rest))

walk_here : (text : List ℕ) → (text ≡ []) ⊎ (IsBadByte text ⊎ (IsOpenComment text ⊎ IsOutOfRange text)) → IsWalk text
walk_here text stops = record { pieces = []; rest = text; leads = refl; stops = stops }

walk_on : (text : List ℕ) (piece : Piece) (after : List ℕ) → Starts text piece after → IsInRange piece.kind piece.bytes → IsWalk after → IsWalk text
walk_on text piece after starts range walk = record { pieces = piece ∷ walk.pieces; rest = walk.rest; leads = (after, starts, range, walk.leads); stops = walk.stops }

walk_front : (fuel : ℕ) (text : List ℕ) → ((rest : List ℕ) → length rest ≤ fuel → IsWalk rest) → length text ≤ suc fuel → 0 < length text → (found : Result Front Stop) → FrontIs text found → IsWalk text
walk_front fuel text next within present (Ok front) is = elim (range_cases front.kind (take front.len text) is.0.spelled) [
  | inl range ↦ walk_on text _ _ is.0 range (next (drop front.len text) (omega (arith, length-drop front.len text, is.1, present)))
  | inr outside ↦ walk_here text (inr (inr (inr (record { piece = piece_of front.kind (take front.len text); rest = drop front.len text; starts = is.0; outside = outside }))))
]
walk_front fuel text next within present (Err BadByte) is = walk_here text (inr (inl (is present)))
walk_front fuel text next within present (Err OpenComment) is = walk_here text (inr (inr (inl is)))

walk_from : (fuel : ℕ) (text : List ℕ) → length text ≤ fuel → IsWalk text
walk_from zero text within = walk_here text (inl (nil_from_length text (omega arith)))
walk_from (suc fuel) text within = elim (cases_lt 0 (length text)) [
  | inl present ↦ walk_front fuel text (walk_from fuel) within present (front_of text) (front_is text)
  | inr none ↦ walk_here text (inl (nil_from_length text (omega arith)))
]

some_outcome : (text : List ℕ) → (outcome : Result (List Lexeme) LexFault) × IsOutcome text outcome
some_outcome text = go (walk_from (length text) text (omega arith))
  where
    go : IsWalk text → (outcome : Result (List Lexeme) LexFault) × IsOutcome text outcome
    go walk = elim walk.stops [
      | inl ends ↦ (Ok (lexemes_of 0 walk.pieces), outcome_of text (Ok (lexemes_of 0 walk.pieces)) walk.pieces walk.rest walk.leads (ends, refl))
      | inr (inl bad) ↦ (Err (faults.BadByte (length text - length walk.rest)), outcome_of text (Err (faults.BadByte (length text - length walk.rest))) walk.pieces walk.rest walk.leads (refl, bad))
      | inr (inr (inl opened)) ↦ (Err (faults.OpenComment (length text - length walk.rest)), outcome_of text (Err (faults.OpenComment (length text - length walk.rest))) walk.pieces walk.rest walk.leads (refl, opened))
      | inr (inr (inr out)) ↦ (Err (faults.OutOfRange (length text - length walk.rest)), outcome_of text (Err (faults.OutOfRange (length text - length walk.rest))) walk.pieces walk.rest walk.leads (refl, out))
    ]

pub one_outcome : HasOneOutcome
one_outcome text =
    let some = some_outcome text in
    (some.0, some.1, λ other is. outcome_once text other some.0 is some.1)

pub one_reading : HasOneReading
one_reading text one other p q =
    let first : Result (List Lexeme) LexFault = Ok one in
    let second : Result (List Lexeme) LexFault = Ok other in
    let same : first ≡ second = outcome_once text first second p q in
    cc
