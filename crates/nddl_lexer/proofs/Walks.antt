-- A walk over a text, piece by piece.
use Rattle.std.proofs.Common.{◌≡◌, ℕ, ◌+◌, ◌-◌, ◌≤◌, Option, Some, None, Result, Ok, List, [], ◌∷◌, ◌++◌, length, take, drop, refl, sym, subst, ◌∙◌, ap, arith}
use Rattle.std.proofs.lemmas.List.{length-append, length-take-le, length-drop, drop-drop, drop_all, take_rest}
use Rattle.nddl_lexer.specs.declared.kinds.LexKind.{LexKind}
use Rattle.nddl_lexer.specs.declared.kinds.Lexeme.{Lexeme}
use Rattle.nddl_lexer.specs.declared.fronts.Front.{Front}
use Rattle.nddl_lexer.specs.declared.fronts.Stop.{Stop}
use Rattle.nddl_lexer.specs.Spelling.{IsInRange}
use Rattle.nddl_lexer.specs.Reading.{Piece, piece_of, Starts, Leads, with_lexeme, lexemes_of, Lexes, IsOutOfRange}
use Rattle.nddl_lexer.specs.Scan.{front_of}
use Rattle.nddl_lexer.proofs.Outcomes.{FrontIs, front_is}

leads_push : (text : List ℕ) (pieces : List Piece) (rest : List ℕ) (piece : Piece) (after : List ℕ) → Leads text pieces rest → Starts rest piece after → IsInRange piece.kind piece.bytes → Leads text (pieces ++ piece ∷ []) after
leads_push text [] rest piece after leads starts range = (after, subst (λ (xs : List ℕ). Starts xs piece after) (sym leads) starts, range, refl)
leads_push text (first ∷ more) rest piece after leads starts range = (leads.0, leads.1, leads.2, leads_push leads.0 more rest piece after leads.3 starts range)

-- how many bytes the pieces have
abbrev total_len : List Piece → ℕ
total_len [] = 0
total_len (piece ∷ more) = length piece.bytes + total_len more

leads_len : (text : List ℕ) (pieces : List Piece) (rest : List ℕ) → Leads text pieces rest → total_len pieces + length rest ≡ length text
leads_len text [] rest leads = omega (arith, ap length leads)
leads_len text (piece ∷ more) rest leads = omega (arith, leads_len leads.0 more rest leads.3, ap length leads.1.parts, length-append piece.bytes leads.0)

with_lexeme_append : (kind : Option LexKind) (at len : ℕ) (lexemes more : List Lexeme) → with_lexeme kind at len (lexemes ++ more) ≡ with_lexeme kind at len lexemes ++ more
with_lexeme_append None at len lexemes more = refl
with_lexeme_append (Some kind) at len lexemes more = refl

lexemes_push : (at : ℕ) (pieces : List Piece) (piece : Piece) → lexemes_of at (pieces ++ piece ∷ []) ≡ lexemes_of at pieces ++ with_lexeme piece.kind (at + total_len pieces) (length piece.bytes) []
lexemes_push at [] piece = ap (λ (n : ℕ). with_lexeme piece.kind n (length piece.bytes) []) (omega arith)
lexemes_push at (first ∷ more) piece =
    ap (with_lexeme first.kind at (length first.bytes))
    (lexemes_push (at + length first.bytes) more piece
    ∙ ap (λ (n : ℕ). lexemes_of (at + length first.bytes) more ++ with_lexeme piece.kind n (length piece.bytes) []) (omega arith))
    ∙ with_lexeme_append first.kind at (length first.bytes) (lexemes_of (at + length first.bytes) more) (with_lexeme piece.kind (at + total_len (first ∷ more)) (length piece.bytes) [])

-- the lexemes up to the place, from where the text goes on
pub record HasRead (text : List ℕ) (lexemes : List Lexeme) (at : ℕ) : Type 0 where
  pub pieces : List Piece
  pub leads : Leads text pieces (drop at text)
  pub are : lexemes ≡ lexemes_of 0 pieces

pub read_more : (text : List ℕ) (lexemes : List Lexeme) (at : ℕ) (kind : Option LexKind) (len : ℕ) → HasRead text lexemes at → at + len ≤ length text
    → Starts (drop at text) (piece_of kind (take len (drop at text))) (drop (at + len) text) → IsInRange kind (take len (drop at text))
    → (new : List Lexeme) → new ≡ lexemes ++ with_lexeme kind at len [] → HasRead text new (at + len)
read_more text lexemes at kind len read within starts range new is = record {
  pieces = read.pieces ++ piece ∷ [];
  leads = leads_push text read.pieces (drop at text) piece (drop (at + len) text) read.leads starts range;
  are =
      is
      ∙ (ap (λ (xs : List Lexeme). xs ++ with_lexeme kind at len []) read.are
      ∙ (ap (λ (n : ℕ). lexemes_of 0 read.pieces ++ with_lexeme kind n len []) place
      ∙ (ap (λ (n : ℕ). lexemes_of 0 read.pieces ++ with_lexeme kind (0 + total_len read.pieces) n []) size ∙ sym (lexemes_push 0 read.pieces piece))));
}
  where
    piece : Piece
    piece = piece_of kind (take len (drop at text))

    place : at ≡ 0 + total_len read.pieces
    place = omega (arith, leads_len text read.pieces (drop at text) read.leads, length-drop at text, within)

    size : len ≡ length (take len (drop at text))
    size = omega (arith, length-take-le len (drop at text) (omega (arith, length-drop at text, within)))

pub read_all : (text : List ℕ) (lexemes : List Lexeme) (at : ℕ) → HasRead text lexemes at → length text ≤ at → Lexes text lexemes
read_all text lexemes at read past = (read.pieces, subst (Leads text read.pieces) (drop_all at text past) read.leads, read.are)

-- ---- the front of the text from the place on, as the code takes it

abbrev rest_at : List ℕ → ℕ → List ℕ
rest_at text at = take (length text - at) (drop at text)

pub found_at : (text : List ℕ) (at : ℕ) (found : Result Front Stop) → found ≡ front_of (rest_at text at) → FrontIs (drop at text) found
found_at text at found is = subst (FrontIs (drop at text)) (ap front_of (sym (take_rest text at)) ∙ sym is) (front_is (drop at text))

pub starts_at : (text : List ℕ) (at : ℕ) (front : Front) → FrontIs (drop at text) (Ok front) → IsInRange front.kind (take front.len (rest_at text at))
    → Starts (drop at text) (piece_of front.kind (take front.len (drop at text))) (drop (at + front.len) text) × IsInRange front.kind (take front.len (drop at text))
starts_at text at front is range = (
  subst (λ (after : List ℕ). Starts (drop at text) (piece_of front.kind (take front.len (drop at text))) after) (drop-drop front.len at text) is.0,
  subst (λ (rest : List ℕ). IsInRange front.kind (take front.len rest)) (take_rest text at) range,
)

pub out_at : (text : List ℕ) (at : ℕ) (front : Front) → FrontIs (drop at text) (Ok front) → (IsInRange front.kind (take front.len (rest_at text at)) → ⊥) → IsOutOfRange (drop at text)
out_at text at front is outside = record {
  piece = piece_of front.kind (take front.len (drop at text));
  rest = drop front.len (drop at text);
  starts = is.0;
  outside = λ range. outside (subst (λ (rest : List ℕ). IsInRange front.kind (take front.len rest)) (sym (take_rest text at)) range);
}
