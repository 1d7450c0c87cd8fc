-- A law of sessions in which no line can be without an answer.
use Rattle.std.specs.Prelude.{◌≡◌, ℕ, zero, suc, List}
use Rattle.session_loop.specs.declared.reply.Answer.{Answer}
use Rattle.session_loop.specs.Answering.{Answering}
use Rattle.session_loop.specs.Sessions.{Standing, Course, Session}

-- the responder is what the first one comes to by so many answers
abbrev pub IsReached : {R : Type 0} → Answering R → R → ℕ → R → Type 0
IsReached answers first zero responder = responder ≡ first
IsReached {R} answers first (suc count) responder =
    (before : R) × (IsReached answers first count before
    × ((line : List ℕ) × ((answer : Answer) × answers before line answer responder)))

-- whatever it comes to, it can't be that a line has no answer
abbrev pub CantFailToReply : {R : Type 0} → Answering R → R → Type 0
CantFailToReply {R} answers first =
    (count : ℕ) (old : R) (line : List ℕ) → IsReached answers first count old
    → ((answer : Answer) × ((new : R) × answers old line answer new) → ⊥) → ⊥

-- then it can't be that lines have no session
abbrev pub CantLackASession : {R : Type 0} → Answering R → Type 0
CantLackASession {R} answers =
    (start : Standing R) (lines : List (List ℕ)) → CantFailToReply answers start.responder
    → ((course : Course R) × Session answers start lines course → ⊥) → ⊥
