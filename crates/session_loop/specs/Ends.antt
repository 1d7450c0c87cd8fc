-- What each way to end a session says of the bytes that were taken and written, and of the responder that it leaves.
use Rattle.std.specs.Prelude.{◌≡◌, ℕ, Bool, true, false, List, [], ◌∷◌, ◌++◌, ◌⊎◌, Option, Some, Result, Ok, Err}
use Rattle.std.specs.Io.KnownBytes.{Appends}
use Rattle.session_loop.specs.declared.fault.SessionFault.{SessionFault}
use Rattle.session_loop.specs.declared.fault.SessionFault.TheVariants.{ReadFault, WriteFault, LinesSpent, Memory}
use Rattle.session_loop.specs.declared.reply.Answer.{Answer}
use Rattle.session_loop.specs.declared.talk.SessionEnd.{SessionEnd}
use Rattle.session_loop.specs.declared.talk.SessionEnd.TheVariants.{OfInput, ByAnswer}
use Rattle.session_loop.specs.Answering.{Answering}
use Rattle.session_loop.specs.Lines.{lines_of, ended_lines}
use Rattle.session_loop.specs.Sessions.{Standing, Ending, AtEnd, AtAnswer, AtLimit, Course, IsAnswered, Session}

-- the bytes that a session took and those that it left, what it wrote, and where it stands then
pub record Passage (R : Type 0) : Type 0 where
  pub taken : List ℕ
  pub left : List ℕ
  pub out : List ℕ
  pub last : Standing R

-- all the bytes
abbrev pub input_of : {R : Type 0} → Passage R → List ℕ
input_of passage = passage.taken ++ passage.left

-- what was written, and where the session stands then, as the course of a session that ends so
abbrev pub course_of : {R : Type 0} → Passage R → Ending → Course R
course_of passage ending = record { out = passage.out; ending = ending; last = passage.last }

-- The session stopped between two lines: some lines were answered in full, and those after them weren't.
pub record StopsBetween {R : Type 0} (answers : Answering R) (start : Standing R) (passage : Passage R) : Type 0 where
  pub answered : List (List ℕ)
  pub later : List (List ℕ)
  pub split : lines_of (input_of passage) ≡ answered ++ later
  pub session : Session answers start answered (course_of passage AtEnd)

-- The session stopped in a reply: some lines were answered in full, the next one has this answer, of whose reply a
-- front was written and the rest was lost, and the responder is that behind this answer.
pub record StopsInReply {R : Type 0} (answers : Answering R) (start : Standing R) (passage : Passage R) : Type 0 where
  pub answered : List (List ℕ)
  pub line : List ℕ
  pub later : List (List ℕ)
  pub split : lines_of (input_of passage) ≡ answered ++ line ∷ later
  pub before : List ℕ
  pub between : Standing R
  pub session : Session answers start answered (record { out = before; ending = AtEnd; last = between })
  pub answer : Answer
  pub is_answer : IsAnswered answers between line answer passage.last
  pub written : List ℕ
  pub lost : List ℕ
  pub cut : answer.reply ≡ written ++ lost
  pub out : passage.out ≡ before ++ written

-- What an end says: OfInput, that nothing is left, and all lines were answered; ByAnswer and LinesSpent, that the
-- session of all the lines ends so; ReadFault, that exactly the lines were answered that a line feed ended;
-- WriteFault, that it stopped in a reply; Memory, that it stopped between two lines, or in a reply of which nothing
-- was written.
abbrev pub Ends : {R : Type 0} → Answering R → Standing R → Passage R → Result SessionEnd SessionFault → Type 0
Ends answers start passage (Ok OfInput) =
    (passage.left ≡ []) × Session answers start (lines_of passage.taken) (course_of passage AtEnd)
Ends answers start passage (Ok ByAnswer) =
    Session answers start (lines_of (input_of passage)) (course_of passage AtAnswer)
Ends answers start passage (Err LinesSpent) =
    Session answers start (lines_of (input_of passage)) (course_of passage AtLimit)
Ends answers start passage (Err ReadFault) = Session answers start (ended_lines passage.taken) (course_of passage AtEnd)
Ends answers start passage (Err WriteFault) = StopsInReply answers start passage
Ends answers start passage (Err Memory) =
    StopsBetween answers start passage ⊎ ((stops : StopsInReply answers start passage) × (stops.written ≡ []))

-- a responder, the bytes that its input has left and those that its output has so far, where these are told
pub record Scene (R : Type 0) : Type 0 where
  pub responder : R
  pub left : Option (List ℕ)
  pub written : Option (List ℕ)

-- a session begins with this responder
abbrev pub begun : {R : Type 0} → R → Standing R
begun responder = record { responder = responder; count = 0 }

-- Where the input is told: a front of it was taken and the rest is left, output was appended, and this is what the end says of them.
abbrev pub SessionTells : {R : Type 0} → Answering R → Scene R → Scene R → Result SessionEnd SessionFault → Type 0
SessionTells {R} answers old new end =
    (input : List ℕ) → old.left ≡ Some input
    → (passage : Passage R) × (input ≡ input_of passage) × (new.left ≡ Some passage.left)
    × Appends old.written new.written passage.out
    × (new.responder ≡ passage.last.responder) × Ends answers (begun old.responder) passage end

-- whether a read ended the session
abbrev pub is_read_fault : {T : Type 0} → Result T SessionFault → Bool
is_read_fault (Ok done) = false
is_read_fault (Err ReadFault) = true
is_read_fault (Err WriteFault) = false
is_read_fault (Err LinesSpent) = false
is_read_fault (Err Memory) = false

-- whether a write ended the session
abbrev pub is_write_fault : {T : Type 0} → Result T SessionFault → Bool
is_write_fault (Ok done) = false
is_write_fault (Err ReadFault) = false
is_write_fault (Err WriteFault) = true
is_write_fault (Err LinesSpent) = false
is_write_fault (Err Memory) = false
