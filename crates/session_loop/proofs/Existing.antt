-- Lines can't lack a session where no line can be without an answer that leaves such a responder again.
use Rattle.std.proofs.Common.{◌≡◌, ℕ, suc, ◌+◌, ◌<◌, ◌≤◌, Bool, true, false, List, [], ◌∷◌, ◌⊎◌, inl, inr, refl}
use Rattle.std.proofs.lemmas.Bool.{cases_lt}
use Rattle.session_loop.specs.declared.reply.Answer.{Answer}
use Rattle.session_loop.specs.Answering.{Answering}
use Rattle.session_loop.specs.Existence.{IsReached, CantFailToReply, CantLackASession}
use Rattle.session_loop.specs.Lines.{cost_of, most}
use Rattle.session_loop.specs.Sessions.{Standing, AtEnd, AtAnswer, AtLimit, Course, stopped, preceded, IsAnswered, Session}

module _ {R : Type 0} (answers : Answering R) where
  abbrev HasSession : Standing R → List (List ℕ) → Type 0
  HasSession start lines = (course : Course R) × Session answers start lines course

  behind : (start next : Standing R) (line : List ℕ) (lines : List (List ℕ)) (answer : Answer) → IsAnswered answers start line answer next
      → HasSession next lines → (goes_on : Bool) → answer.goes_on ≡ goes_on → HasSession start (line ∷ lines)
  behind start next line lines answer is rest false ends =
      (record { out = answer.reply; ending = AtAnswer; last = next }, inr (answer, next, is, inl (ends, refl)))
  behind start next line lines answer is rest true goes_on =
      (preceded answer.reply rest.0, inr (answer, next, is, inr (goes_on, (rest.0, rest.1, refl))))

  -- for any property of responders that answers keep
  module _ (Good : R → Type 0)
      (replies : (old : R) (line : List ℕ) → Good old → ((answer : Answer) × ((new : R) × (answers old line answer new × Good new)) → ⊥) → ⊥) where
    pub some_session : (start : Standing R) (lines : List (List ℕ)) → Good start.responder → (HasSession start lines → ⊥) → ⊥
    some_session start [] good none = none (stopped start AtEnd, refl)
    some_session start (line ∷ lines) good none = by_count (cases_lt most (start.count + cost_of line))
        (λ next is_good. some_session next lines is_good)
      where
        by_count : (most < start.count + cost_of line) ⊎ (start.count + cost_of line ≤ most)
            → ((next : Standing R) → Good next.responder → (HasSession next lines → ⊥) → ⊥) → ⊥
        by_count (inl over) later = none (stopped start AtLimit, inl (over, refl))
        by_count (inr within) later = replies start.responder line good (λ found.
            let next : Standing R = record { responder = found.1.0; count = start.count + cost_of line } in
            later next found.1.1.1 (λ rest.
            none (behind start next line lines found.0 (record { answered = found.1.1.0; counted = refl; within = within }) rest found.0.goes_on refl)))

-- what the first responder comes to by some answers
abbrev IsReachedAnyhow : {R : Type 0} → Answering R → R → R → Type 0
IsReachedAnyhow answers first responder = (count : ℕ) × IsReached answers first count responder

reached_again : {R : Type 0} (answers : Answering R) (first : R) → CantFailToReply answers first
    → (old : R) (line : List ℕ) → IsReachedAnyhow answers first old
    → ((answer : Answer) × ((new : R) × (answers old line answer new × IsReachedAnyhow answers first new)) → ⊥) → ⊥
reached_again answers first replies old line reached none = replies reached.0 old line reached.1 (λ found.
    none (found.0, (found.1.0, (found.1.1, (suc reached.0, (old, (reached.1, (line, (found.0, found.1.1)))))))))

pub cant_lack_a_session : {R : Type 0} (answers : Answering R) → CantLackASession answers
cant_lack_a_session answers start lines replies none =
    some_session answers (IsReachedAnyhow answers start.responder) (reached_again answers start.responder replies) start lines (0, refl) none
