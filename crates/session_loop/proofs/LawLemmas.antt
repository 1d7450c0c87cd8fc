-- The laws of sessions.
use Rattle.std.proofs.Common.{◌≡◌, ℕ, ◌+◌, ◌<◌, ◌≤◌, Bool, true, false, List, [], ◌∷◌, ◌++◌, ◌⊎◌, Err, refl, sym, ap, ◌∙◌, subst, inl, inr, arith}
use Rattle.std.proofs.lemmas.Bool.{cases_lt}
use Rattle.std.proofs.lemmas.List.{append_assoc, append-nil}
use Rattle.session_loop.specs.declared.fault.SessionFault.{SessionFault}
use Rattle.session_loop.specs.declared.fault.SessionFault.TheVariants.{ReadFault, WriteFault, LinesSpent, Memory}
use Rattle.session_loop.specs.declared.reply.Answer.{Answer}
use Rattle.session_loop.specs.Answering.{Answering}
use Rattle.session_loop.specs.Ends.{Passage, input_of, StopsInReply, Ends, begun}
use Rattle.session_loop.specs.Laws.{HasOneReply, HasSomeReply, IsFront, HasOneSession, HasSomeSession, WritesFront, TellsFront}
use Rattle.session_loop.specs.Lines.{lines_of, ended_lines, cost_of, most}
use Rattle.session_loop.specs.Sessions.{Standing, Ending, AtEnd, AtAnswer, AtLimit, Course, stopped, preceded, IsAnswered, GoesOn, Session}
use Rattle.session_loop.proofs.LineLemmas.{lines_front}

standing_same : {R : Type 0} (one other : Standing R) → other.responder ≡ one.responder → other.count ≡ one.count → other ≡ one
standing_same one other responder count = λ i. record { responder = responder i; count = count i }

-- a course that is known to end so
ended_as : {R : Type 0} (course : Course R) (ending : Ending) (last : Standing R) → course.ending ≡ ending → course.last ≡ last
    → course ≡ record { out = course.out; ending = ending; last = last }
ended_as course ending last e l = λ i. record { out = course.out; ending = e i; last = l i }

-- two replies, one after the other, come before as one
preceded_twice : {R : Type 0} (first second : List ℕ) (course : Course R) → preceded first (preceded second course) ≡ preceded (first ++ second) course
preceded_twice first second course =
    λ i. record { out = sym (append_assoc first second course.out) i; ending = course.ending; last = course.last }

end_no_limit : AtEnd ≡ AtLimit → ⊥
end_no_limit e = cc

end_no_answer : AtEnd ≡ AtAnswer → ⊥
end_no_answer e = cc

true_no_false : (b : Bool) → b ≡ false → b ≡ true → ⊥
true_no_false b e f = cc

module _ {R : Type 0} (answers : Answering R) (only : HasOneReply answers) where
  -- a line has one answer, and the session stands behind it in one way
  answered_once : (old : Standing R) (line : List ℕ) (answer other : Answer) (next last : Standing R)
      → IsAnswered answers old line answer next → IsAnswered answers old line other last → (other ≡ answer) × (last ≡ next)
  answered_once old line answer other next last p q =
      let same = only old.responder line answer other next.responder last.responder p.answered q.answered in
      (same.0, standing_same next last same.1 (q.counted ∙ sym p.counted))

  -- what comes behind the same answer
  moved : (lines : List (List ℕ)) (answer other : Answer) (next last : Standing R) (course : Course R) → other ≡ answer → last ≡ next
      → GoesOn (Session answers last lines) other last course → GoesOn (Session answers next lines) answer next course
  moved lines answer other next last course same stands g =
      subst (λ (a : Answer). GoesOn (Session answers next lines) a next course) same
      (subst (λ (n : Standing R). GoesOn (Session answers n lines) other n course) stands g)

  over_no_answer : (old : Standing R) (line : List ℕ) (answer : Answer) (next : Standing R) → most < old.count + cost_of line
      → IsAnswered answers old line answer next → ⊥
  over_no_answer old line answer next over p = omega (arith, over, p.counted, p.within)

  one_behind : (IsOfRest : Course R → Type 0) → ((one two : Course R) → IsOfRest one → IsOfRest two → two ≡ one)
      → (answer : Answer) (next : Standing R) (course other : Course R)
      → GoesOn IsOfRest answer next course → GoesOn IsOfRest answer next other → other ≡ course
  one_behind IsOfRest once answer next course other (inl s) (inl t) = t.1 ∙ sym s.1
  one_behind IsOfRest once answer next course other (inl s) (inr t) = absurd (true_no_false answer.goes_on s.0 t.0)
  one_behind IsOfRest once answer next course other (inr s) (inl t) = absurd (true_no_false answer.goes_on t.0 s.0)
  one_behind IsOfRest once answer next course other (inr s) (inr t) =
      t.1.2 ∙ ap (preceded answer.reply) (once s.1.0 t.1.0 s.1.1 t.1.1) ∙ sym s.1.2

  one_session : (start : Standing R) (lines : List (List ℕ)) (course other : Course R)
      → Session answers start lines course → Session answers start lines other → other ≡ course
  one_session start [] course other s t = t ∙ sym s
  one_session start (line ∷ lines) course other (inl s) (inl t) = t.1 ∙ sym s.1
  one_session start (line ∷ lines) course other (inl s) (inr t) = absurd (over_no_answer start line t.0 t.1 s.0 t.2)
  one_session start (line ∷ lines) course other (inr s) (inl t) = absurd (over_no_answer start line s.0 s.1 t.0 s.2)
  one_session start (line ∷ lines) course other (inr s) (inr t) =
      let same = answered_once start line s.0 t.0 s.1 t.1 s.2 t.2 in
      one_behind (Session answers s.1 lines) (one_session s.1 lines) s.0 s.1 course other s.3
      (moved lines s.0 t.0 s.1 t.1 other same.0 same.1 t.3)

  -- the session of all the lines is that of the first lines, where it comes to their end, and then that of the others
  session_behind : (start : Standing R) (front back : List (List ℕ)) (before : List ℕ) (between : Standing R) (whole : Course R)
      → Session answers start front (record { out = before; ending = AtEnd; last = between }) → Session answers start (front ++ back) whole
      → (rest : Course R) × Session answers between back rest × (whole ≡ preceded before rest)
  session_behind start [] back before between whole s t = (
    whole,
    subst (λ (b : Standing R). Session answers b back whole) (sym (ap (λ (c : Course R). c.last) s)) t,
    ap (λ (out : List ℕ). preceded out whole) (sym (ap (λ (c : Course R). c.out) s)),
  )
  session_behind start (line ∷ front) back before between whole (inl s) t = absurd (end_no_limit (ap (λ (c : Course R). c.ending) s.1))
  session_behind start (line ∷ front) back before between whole (inr s) (inl t) = absurd (over_no_answer start line s.0 s.1 t.0 s.2)
  session_behind start (line ∷ front) back before between whole (inr s) (inr t) =
      let same = answered_once start line s.0 t.0 s.1 t.1 s.2 t.2 in
      behind s.0 s.1 s.3 (moved (front ++ back) s.0 t.0 s.1 t.1 whole same.0 same.1 t.3)
      (λ out. session_behind s.1 front back out between)
    where
      Given : Type 0
      Given = (rest : Course R) × Session answers between back rest × (whole ≡ preceded before rest)

      behind : (answer : Answer) (next : Standing R)
          → GoesOn (Session answers next front) answer next (record { out = before; ending = AtEnd; last = between })
          → GoesOn (Session answers next (front ++ back)) answer next whole
          → ((out : List ℕ) (all : Course R) → Session answers next front (record { out = out; ending = AtEnd; last = between }) → Session answers next (front ++ back) all
          → (rest : Course R) × Session answers between back rest × (all ≡ preceded out rest)) → Given
      behind answer next (inl s) t later = absurd (end_no_answer (ap (λ (c : Course R). c.ending) s.1))
      behind answer next (inr s) (inl t) later = absurd (true_no_false answer.goes_on t.0 s.0)
      behind answer next (inr s) (inr t) later =
          let first = s.1.0 in
          let ending = sym (ap (λ (c : Course R). c.ending) s.1.2) in
          let last = sym (ap (λ (c : Course R). c.last) s.1.2) in
          let rest = later first.out t.1.0 (subst (Session answers next front) (ended_as first AtEnd between ending last) s.1.1) t.1.1 in (
            rest.0,
            rest.1,
            t.1.2 ∙ ap (preceded answer.reply) rest.2 ∙ preceded_twice answer.reply first.out rest.0
                ∙ ap (λ (out : List ℕ). preceded out rest.0) (sym (ap (λ (c : Course R). c.out) s.1.2)),
          )

  -- the reply to the first line comes first
  reply_first : (old : Standing R) (line : List ℕ) (lines : List (List ℕ)) (answer : Answer) (next : Standing R) (course : Course R)
      → IsAnswered answers old line answer next → Session answers old (line ∷ lines) course → IsFront answer.reply course.out
  reply_first old line lines answer next course is (inl t) = absurd (over_no_answer old line answer next t.0 is)
  reply_first old line lines answer next course is (inr t) =
      let same = answered_once old line answer t.0 next t.1 is t.2 in
      first (moved lines answer t.0 next t.1 course same.0 same.1 t.3)
    where
      first : GoesOn (Session answers next lines) answer next course → IsFront answer.reply course.out
      first (inl s) = ([], ap (λ (c : Course R). c.out) s.1 ∙ sym (append-nil answer.reply))
      first (inr s) = (s.1.0.out, ap (λ (c : Course R). c.out) s.1.2)

  -- what was written before it stopped in a reply
  reply_front : (start : Standing R) (passage : Passage R) (whole : Course R) → StopsInReply answers start passage
      → Session answers start (lines_of (input_of passage)) whole → IsFront passage.out whole.out
  reply_front start passage whole stops t =
      let rest = session_behind start stops.answered (stops.line ∷ stops.later) stops.before stops.between whole stops.session
      (subst (λ lines. Session answers start lines whole) stops.split t) in
      let first = reply_first stops.between stops.line stops.later stops.answer passage.last rest.0 stops.is_answer rest.1 in (
        stops.lost ++ first.0,
        ap (λ (c : Course R). c.out) rest.2
            ∙ ap (λ l. stops.before ++ l) (first.1 ∙ ap (λ l. l ++ first.0) stops.cut ∙ append_assoc stops.written stops.lost first.0)
            ∙ sym (append_assoc stops.before stops.written (stops.lost ++ first.0))
            ∙ ap (λ l. l ++ (stops.lost ++ first.0)) (sym stops.out),
      )

  fault_front : (start : Standing R) (passage : Passage R) (fault : SessionFault) (whole : Course R)
      → Ends answers start passage (Err fault) → Session answers start (lines_of (input_of passage)) whole → IsFront passage.out whole.out
  fault_front start passage ReadFault whole s t =
      let more = lines_front passage.taken passage.left in
      let rest = session_behind start (ended_lines passage.taken) more.0 passage.out passage.last whole s
      (subst (λ lines. Session answers start lines whole) more.1 t) in
      (rest.0.out, ap (λ (c : Course R). c.out) rest.2)
  fault_front start passage WriteFault whole s t = reply_front start passage whole s t
  fault_front start passage LinesSpent whole s t =
      let same = one_session start (lines_of (input_of passage)) _ whole s t in
      ([], ap (λ (c : Course R). c.out) same ∙ sym (append-nil passage.out))
  fault_front start passage Memory whole (inl s) t =
      let rest = session_behind start s.answered s.later passage.out passage.last whole s.session
      (subst (λ lines. Session answers start lines whole) s.split t) in
      (rest.0.out, ap (λ (c : Course R). c.out) rest.2)
  fault_front start passage Memory whole (inr s) t = reply_front start passage whole s.0 t

module _ {R : Type 0} (answers : Answering R) (some : HasSomeReply answers) where
  or_not : (b : Bool) → (b ≡ false) ⊎ (b ≡ true)
  or_not false = inl refl
  or_not true = inr refl

  some_behind : (IsOfRest : Course R → Type 0) → (rest : Course R) × IsOfRest rest → (answer : Answer) (next : Standing R)
      → (answer.goes_on ≡ false) ⊎ (answer.goes_on ≡ true) → (course : Course R) × GoesOn IsOfRest answer next course
  some_behind IsOfRest rest answer next (inl ends) = (record { out = answer.reply; ending = AtAnswer; last = next }, inl (ends, refl))
  some_behind IsOfRest rest answer next (inr goes_on) = (preceded answer.reply rest.0, inr (goes_on, (rest.0, rest.1, refl)))

  some_session : (start : Standing R) (lines : List (List ℕ)) → (course : Course R) × Session answers start lines course
  some_session start [] = (stopped start AtEnd, refl)
  some_session start (line ∷ lines) =
      let answer = some start.responder line in
      let next : Standing R = record { responder = answer.1.0; count = start.count + cost_of line } in
      by_count answer.0 next answer.1.1 refl (some_session next lines) (cases_lt most (start.count + cost_of line))
    where
      by_count : (answer : Answer) (next : Standing R) → answers start.responder line answer next.responder → next.count ≡ start.count + cost_of line
          → (rest : Course R) × Session answers next lines rest → (most < start.count + cost_of line) ⊎ (start.count + cost_of line ≤ most)
          → (course : Course R) × Session answers start (line ∷ lines) course
      by_count answer next told counted rest (inl over) = (stopped start AtLimit, inl (over, refl))
      by_count answer next told counted rest (inr within) =
          let course = some_behind (Session answers next lines) rest answer next (or_not answer.goes_on) in
          (course.0, inr (answer, next, record { answered = told; counted = counted; within = subst (λ n. n ≤ most) (sym counted) within }, course.1))

-- the session of the same lines is one
pub session_is_one : {R : Type 0} (answers : Answering R) → HasOneSession answers
session_is_one answers only = one_session answers only

-- lines have a session
pub lines_have_a_session : {R : Type 0} (answers : Answering R) → HasSomeSession answers
lines_have_a_session answers some = some_session answers some

-- what was written before a fault comes first in the whole output
pub fault_writes_front : {R : Type 0} (answers : Answering R) → WritesFront answers
fault_writes_front answers only = fault_front answers only

-- the same of a session whose input and output are told
pub fault_tells_front : {R : Type 0} (answers : Answering R) → TellsFront answers
fault_tells_front answers only old new fault tells input is =
    let told = tells input is in
    let passage = told.0 in (
      passage.out,
      told.3,
      λ whole s. fault_front answers only (begun old.responder) passage fault whole told.5
          (subst (λ bytes. Session answers (begun old.responder) (lines_of bytes) whole) told.1 s),
    )
