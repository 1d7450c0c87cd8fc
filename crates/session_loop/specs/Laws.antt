-- Laws of sessions, where each line has one answer, or some.
use Rattle.std.specs.Prelude.{◌≡◌, ℕ, List, ◌++◌, Some, Err}
use Rattle.std.specs.Io.KnownBytes.{Appends}
use Rattle.session_loop.specs.declared.fault.SessionFault.{SessionFault}
use Rattle.session_loop.specs.declared.reply.Answer.{Answer}
use Rattle.session_loop.specs.Answering.{Answering}
use Rattle.session_loop.specs.Ends.{Passage, input_of, Ends, Scene, begun, SessionTells}
use Rattle.session_loop.specs.Lines.{lines_of}
use Rattle.session_loop.specs.Sessions.{Standing, Course, Session}

-- each line has one answer, and leaves one responder
abbrev pub HasOneReply : {R : Type 0} → Answering R → Type 0
HasOneReply {R} answers = (old : R) (line : List ℕ) (answer other : Answer) (new next : R)
    → answers old line answer new → answers old line other next → (other ≡ answer) × (next ≡ new)

-- each line has some answer
abbrev pub HasSomeReply : {R : Type 0} → Answering R → Type 0
HasSomeReply {R} answers = (old : R) (line : List ℕ) → (answer : Answer) × ((new : R) × answers old line answer new)

-- these bytes come first in those
abbrev pub IsFront : List ℕ → List ℕ → Type 0
IsFront out whole = (lost : List ℕ) × (whole ≡ out ++ lost)

-- the session of the same lines is one: its output, how it ends, and where it stands then
abbrev pub HasOneSession : {R : Type 0} → Answering R → Type 0
HasOneSession {R} answers = HasOneReply answers
    → (start : Standing R) (lines : List (List ℕ)) (course other : Course R)
    → Session answers start lines course → Session answers start lines other → other ≡ course

-- lines have a session
abbrev pub HasSomeSession : {R : Type 0} → Answering R → Type 0
HasSomeSession {R} answers = HasSomeReply answers
    → (start : Standing R) (lines : List (List ℕ)) → (course : Course R) × Session answers start lines course

-- what was written before a fault comes first in the whole output of the session, were there no fault
abbrev pub WritesFront : {R : Type 0} → Answering R → Type 0
WritesFront {R} answers = HasOneReply answers
    → (start : Standing R) (passage : Passage R) (fault : SessionFault) (whole : Course R)
    → Ends answers start passage (Err fault) → Session answers start (lines_of (input_of passage)) whole
    → IsFront passage.out whole.out

-- the same of a session whose input is told: its lines have the whole output
abbrev pub TellsFront : {R : Type 0} → Answering R → Type 0
TellsFront {R} answers = HasOneReply answers
    → (old new : Scene R) (fault : SessionFault) → SessionTells answers old new (Err fault)
    → (input : List ℕ) → old.left ≡ Some input
    → (out : List ℕ) × Appends old.written new.written out
    × ((whole : Course R) → Session answers (begun old.responder) (lines_of input) whole → IsFront out whole.out)
