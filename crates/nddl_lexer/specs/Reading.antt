-- A text as lexemes with blanks and comments between them, and the first place where it is none.
use Rattle.std.specs.Prelude.{◌≡◌, ℕ, ◌+◌, ◌-◌, ◌<◌, ◌≤◌, Option, Some, None, Result}
use Rattle.std.specs.Prelude.{Ok, Err, List, [], ◌∷◌, ◌++◌, length, codes, slice_range, IsTrue}
use Rattle.nddl_lexer.specs.declared.kinds.LexKind.{LexKind}
use Rattle.nddl_lexer.specs.declared.kinds.Lexeme.{Lexeme}
use Rattle.nddl_lexer.specs.declared.kinds.LexFault.{LexFault}
use Rattle.nddl_lexer.specs.declared.kinds.LexFault.TheVariants.{BadByte, OpenComment, OutOfRange, Memory}
use Rattle.nddl_lexer.specs.Bytes.{is_blank}
use Rattle.nddl_lexer.specs.Spelling.{IsSpelled, IsPiece, Closes, IsInRange}

-- a piece of a text: a lexeme of its kind or, where it has none, a blank or a comment
pub record Piece : Type 0 where
  pub kind : Option LexKind
  pub bytes : List ℕ

abbrev pub piece_of : Option LexKind → List ℕ → Piece
piece_of kind bytes = record { kind = kind; bytes = bytes }

-- the text begins with the piece, no longer front of it is any piece, and the rest follows
pub record Starts (text : List ℕ) (piece : Piece) (rest : List ℕ) : Type 0 where
  pub parts : text ≡ piece.bytes ++ rest
  pub spelled : IsPiece piece.kind piece.bytes
  pub longest : (other : Piece) (left : List ℕ) → text ≡ other.bytes ++ left → IsPiece other.kind other.bytes
      → length other.bytes ≤ length piece.bytes

-- the text is these pieces in turn, each the longest at its place and with a value in range if any, and then the rest
abbrev pub Leads : List ℕ → List Piece → List ℕ → Type 0
Leads text [] rest = text ≡ rest
Leads text (piece ∷ more) rest =
    (after : List ℕ) × Starts text piece after × IsInRange piece.kind piece.bytes × Leads after more rest

-- the lexeme that the piece is at this place, before others
abbrev pub with_lexeme : Option LexKind → ℕ → ℕ → List Lexeme → List Lexeme
with_lexeme None at len lexemes = lexemes
with_lexeme (Some kind) at len lexemes = record { kind = kind; at = at; len = len } ∷ lexemes

-- the lexemes among the pieces, of which the first begins at the place
abbrev pub lexemes_of : ℕ → List Piece → List Lexeme
lexemes_of at [] = []
lexemes_of at (piece ∷ more) =
    with_lexeme piece.kind at (length piece.bytes) (lexemes_of (at + length piece.bytes) more)

-- lexemes, blanks and comments follow each other and make up the whole text, each the longest at its place; these are
-- the lexemes
abbrev pub Lexes : List ℕ → List Lexeme → Type 0
Lexes text lexemes = (pieces : List Piece) × Leads text pieces [] × (lexemes ≡ lexemes_of 0 pieces)

-- the text goes on, but no lexeme, blank or comment begins it, not even a comment that isn't closed
pub record IsBadByte (text : List ℕ) : Type 0 where
  pub present : 0 < length text
  pub nothing : (piece : Piece) (rest : List ℕ) → text ≡ piece.bytes ++ rest → IsPiece piece.kind piece.bytes → ⊥
  pub no_comment : (rest : List ℕ) → text ≡ codes "/*" ++ rest → ⊥

-- the text begins with `/*`, which no `*/` follows
pub record IsOpenComment (text : List ℕ) : Type 0 where
  pub inside : List ℕ
  pub parts : text ≡ codes "/*" ++ inside
  pub open_ended : (place : ℕ) → Closes inside place → ⊥

-- the text begins with a number or a decimal that is out of range, or has too many digits
pub record IsOutOfRange (text : List ℕ) : Type 0 where
  pub piece : Piece
  pub rest : List ℕ
  pub starts : Starts text piece rest
  pub outside : IsInRange piece.kind piece.bytes → ⊥

-- the text, which begins at the place, has the fault there; want of memory is no fault of a text
abbrev pub IsFaultFrom : List ℕ → ℕ → LexFault → Type 0
IsFaultFrom text at (BadByte place) = (place ≡ at) × IsBadByte text
IsFaultFrom text at (OpenComment place) = (place ≡ at) × IsOpenComment text
IsFaultFrom text at (OutOfRange place) = (place ≡ at) × IsOutOfRange text
IsFaultFrom text at Memory = ⊥

-- the fault is the first that the text has: before its place all is lexemes, blanks and comments
pub record IsFault (text : List ℕ) (fault : LexFault) : Type 0 where
  pub pieces : List Piece
  pub rest : List ℕ
  pub leads : Leads text pieces rest
  pub cause : IsFaultFrom rest (length text - length rest) fault

-- what the text is: lexemes, or a fault
abbrev pub IsOutcome : List ℕ → Result (List Lexeme) LexFault → Type 0
IsOutcome text (Ok lexemes) = Lexes text lexemes
IsOutcome text (Err fault) = IsFault text fault

-- each text has one outcome: the lexemes or the first fault, of one sort and at one place
abbrev pub HasOneOutcome : Type 0
HasOneOutcome = (text : List ℕ) → (outcome : Result (List Lexeme) LexFault) × IsOutcome text outcome
    × ((other : Result (List Lexeme) LexFault) → IsOutcome text other → other ≡ outcome)

-- no text has two lists of lexemes
abbrev pub HasOneReading : Type 0
HasOneReading = (text : List ℕ) (one other : List Lexeme) → Lexes text one → Lexes text other → one ≡ other

-- ---- laws for those who read or write lexemes

-- the bytes of the text that the lexeme is
abbrev pub bytes_of : List ℕ → Lexeme → List ℕ
bytes_of text lexeme = slice_range text lexeme.at (lexeme.at + lexeme.len)

-- the lexeme lies within the text, its bytes spell its kind, and its value is in range if it has one
pub record IsLexemeOf (text : List ℕ) (lexeme : Lexeme) : Type 0 where
  pub within : lexeme.at + lexeme.len ≤ length text
  pub some : 0 < lexeme.len
  pub spelled : IsSpelled lexeme.kind (bytes_of text lexeme)
  pub in_range : IsInRange (Some lexeme.kind) (bytes_of text lexeme)

-- these are lexemes of the text from the place on, each after the one before it
abbrev pub AreLexemesOf : List ℕ → ℕ → List Lexeme → Type 0
AreLexemesOf text from [] = Unit {0}
AreLexemesOf text from (lexeme ∷ more) =
    (from ≤ lexeme.at) × IsLexemeOf text lexeme × AreLexemesOf text (lexeme.at + lexeme.len) more

-- the lexemes of a text lie in it in order, without overlap, each as its kind says
abbrev pub LieInOrder : Type 0
LieInOrder = (text : List ℕ) (lexemes : List Lexeme) → Lexes text lexemes → AreLexemesOf text 0 lexemes

-- a blank after a lexeme ends it there, whatever follows, and is skipped itself
pub record BlanksSeparate : Type 0 where
  pub lexeme : (kind : LexKind) (bytes : List ℕ) (blank : ℕ) (rest : List ℕ) → IsSpelled kind bytes
      → IsTrue (is_blank blank) → Starts (bytes ++ blank ∷ rest) (piece_of (Some kind) bytes) (blank ∷ rest)
  pub blank : (blank : ℕ) (rest : List ℕ) → IsTrue (is_blank blank)
      → Starts (blank ∷ rest) (piece_of None (blank ∷ [])) rest
