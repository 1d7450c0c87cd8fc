-- What a session over lines is.
use Rattle.std.specs.Prelude.{◌≡◌, ℕ, ◌+◌, ◌<◌, ◌≤◌, true, false, List, [], ◌∷◌, ◌++◌, ◌⊎◌}
use Rattle.session_loop.specs.declared.reply.Answer.{Answer}
use Rattle.session_loop.specs.Answering.{Answering}
use Rattle.session_loop.specs.Lines.{cost_of, most}

-- where a session stands: its responder, and what the lines so far count
pub record Standing (R : Type 0) : Type 0 where
  pub responder : R
  pub count : ℕ

-- how a session over lines ends: past the last of them, at an answer that ends it, or at a line that brings the count
-- above the most
pub data Ending : Type 0 where
  AtEnd : Ending
  AtAnswer : Ending
  AtLimit : Ending

-- what a session writes, how it ends, and where it stands then
pub record Course (R : Type 0) : Type 0 where
  pub out : List ℕ
  pub ending : Ending
  pub last : Standing R

-- nothing is written, and the session ends where it stands
abbrev pub stopped : {R : Type 0} → Standing R → Ending → Course R
stopped standing ending = record { out = []; ending = ending; last = standing }

-- the same course with a reply before it
abbrev pub preceded : {R : Type 0} → List ℕ → Course R → Course R
preceded reply course = record { out = reply ++ course.out; ending = course.ending; last = course.last }

-- the line is answered so, and the lines count no more than they may
pub record IsAnswered {R : Type 0} (answers : Answering R)
    (old : Standing R) (line : List ℕ) (answer : Answer) (new : Standing R) : Type 0 where
  pub answered : answers old.responder line answer new.responder
  pub counted : new.count ≡ old.count + cost_of line
  pub within : new.count ≤ most

-- behind an answer: nothing more where it ends the session, and else the course of the rest
abbrev pub GoesOn : {R : Type 0} → (Course R → Type 0) → Answer → Standing R → Course R → Type 0
GoesOn {R} IsOfRest answer next course =
    ((answer.goes_on ≡ false) × (course ≡ record { out = answer.reply; ending = AtAnswer; last = next }))
    ⊎ ((answer.goes_on ≡ true) × ((rest : Course R) × IsOfRest rest × (course ≡ preceded answer.reply rest)))

-- The session of these lines from where it stands: a line that brings the count above the most ends it, any other is
-- answered, and the lines after it have their session where its answer doesn't end this one.
abbrev pub Session : {R : Type 0} → Answering R → Standing R → List (List ℕ) → Course R → Type 0
Session answers old [] course = course ≡ stopped old AtEnd
Session {R} answers old (line ∷ lines) course =
    ((most < old.count + cost_of line) × (course ≡ stopped old AtLimit))
    ⊎ ((answer : Answer) × (next : Standing R) × IsAnswered answers old line answer next
    × GoesOn (Session answers next lines) answer next course)
