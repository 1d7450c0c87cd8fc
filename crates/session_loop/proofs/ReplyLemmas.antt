-- Lemmas on a line that is answered.
use Rattle.std.proofs.Common.{◌≡◌, ℕ, ◌+◌, ◌/◌, ◌≤◌, max, List, Option, length, take, Err, refl, subst, inl, inr}
use Rattle.std.proofs.KnownBytes.{Keeps-refl}
use Rattle.session_loop.specs.declared.fault.SessionFault.TheVariants.{Memory}
use Rattle.session_loop.specs.declared.reply.Answer.{Answer}
use Rattle.session_loop.specs.Answering.{Answering, LeavesUnanswered}
use Rattle.session_loop.specs.Lines.{cost_of, most}
use Rattle.session_loop.specs.Pieces.{TakesTurn}

-- the count of a line from its length
pub counted_le : (line : List ℕ) (count n r : ℕ) → n ≡ length line → r ≡ max 1 ((n + 4095) / 4096) → count + r ≤ most → count + cost_of line ≤ most
counted_le line count n r len is within =
    subst (λ k. count + max 1 ((k + 4095) / 4096) ≤ most) len (subst (λ k. count + k ≤ most) is within)

-- there was no memory for an answer
pub unanswered : {R : Type 0} (answers : Answering R) (count : ℕ) (line : List ℕ) (old new : R) (written : Option (List ℕ))
    → ((answer : Answer) → answers old (take 4097 line) answer new → answers old line answer new) → count + cost_of line ≤ most
    → LeavesUnanswered answers old (take 4097 line) new
    → TakesTurn answers count line (record { responder = old; written = written }) (record { responder = new; written = written }) (Err Memory)
unanswered answers count line old new written front within (inl same) = (Keeps-refl written, inl same)
unanswered answers count line old new written front within (inr is) =
    (Keeps-refl written, inr (is.0, record { answered = front is.0 is.1; counted = refl; within = within }))
