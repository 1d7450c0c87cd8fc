-- What a session is made of: the replies to its lines.
use Rattle.std.proofs.Common.{◌≡◌, ℕ, true, false, List, [], ◌∷◌, ◌++◌, ◌⊎◌, Result, Ok, Err, refl, sym, ap, ◌∙◌, subst, inl, inr, append-nil}
use Rattle.std.proofs.lemmas.List.{append_assoc}
use Rattle.session_loop.specs.declared.reply.Answer.{Answer}
use Rattle.session_loop.specs.Sessions.{Standing, Ending, AtEnd, AtAnswer, AtLimit, Course, stopped, preceded, IsAnswered, GoesOn, Session}
use Rattle.plan_db.specs.Database.{Database}
use Rattle.script_lang.specs.declared.command.Command.{Command}
use Rattle.script_lang.specs.declared.command.LineFault.{LineFault}
use Rattle.script_lang.specs.declared.command.LineFault.TheVariants as faults
use Rattle.session_core.specs.LineReplies.{AnswersRead, AnswersLine}
use Rattle.session_core.specs.Laws.{PrintedEndsProve, EndsWithin, HasTurn, SolvedEndsProve}
use Rattle.session_core.proofs.Keeping.{model_stays}

-- ---- the model

read_keeps : (old new : Database) (read : Result Command LineFault) (answer : Answer) → AnswersRead old read answer new → new.model ≡ old.model
read_keeps old new (Ok command) answer is = model_stays old new command (Ok answer.reply) is.0
read_keeps old new (Err faults.TooLong) answer is = ap (λ (database : Database). database.model) is.2
read_keeps old new (Err faults.Syntax) answer is = ap (λ (database : Database). database.model) is.2
read_keeps old new (Err faults.Memory) answer is = absurd is

-- a line leaves the model as it is
line_keeps : (old new : Database) (text : List ℕ) (answer : Answer) → AnswersLine old text answer new → new.model ≡ old.model
line_keeps old new text answer (sound, (read, (reads, answers))) = read_keeps old new read answer answers

-- ---- where a session ends

-- the same course, ended so
abbrev ended_so : Ending → Course Database → Course Database
ended_so ending course = record { out = course.out; ending = ending; last = course.last }

abbrev ending_of : Course Database → Ending
ending_of course = course.ending

abbrev out_of : Course Database → List ℕ
out_of course = course.out

end_no_limit : AtEnd ≡ AtLimit → ⊥
end_no_limit same = cc

end_no_answer : AtEnd ≡ AtAnswer → ⊥
end_no_answer same = cc

-- at the limit
limit_within : (start : Standing Database) (before : List (List ℕ)) (course : Course Database) (ending : Ending) → course ≡ stopped start AtLimit
    → Session AnswersLine start before (ended_so ending course) → EndsWithin start before course
limit_within start before course ending is session = (λ same. end_no_limit (sym same ∙ ap ending_of is), (ending, session))

-- ---- the first line

module _ (start : Standing Database) (line : List ℕ) (answer : Answer) (next : Standing Database) (answered : IsAnswered AnswersLine start line answer next) where
  first_turn : (later : List (List ℕ)) (course : Course Database) → GoesOn (Session AnswersLine next later) answer next course → HasTurn start [] line later course
  first_turn later course (inl (quits, is)) = record {
    front = [];
    old = start;
    reached = refl;
    same_model = refl;
    answer = answer;
    new = next;
    answered = answered;
    rest = [];
    behind = inl (quits, refl);
    out = ap out_of is ∙ sym (append-nil answer.reply);
  }
  first_turn later course (inr (goes_on, (rest, session, is))) = record {
    front = [];
    old = start;
    reached = refl;
    same_model = refl;
    answer = answer;
    new = next;
    answered = answered;
    rest = rest.out;
    behind = inr (goes_on, (rest, (session, refl)));
    out = ap out_of is;
  }

  -- the session ends with this line
  quits_within : (more : List (List ℕ)) (course : Course Database) → answer.goes_on ≡ false → course ≡ record { out = answer.reply; ending = AtAnswer; last = next }
      → EndsWithin start (line ∷ more) course
  quits_within more course quits is =
      (λ same. end_no_answer (sym same ∙ ap ending_of is), (AtAnswer, inr (answer, next, answered, inl (quits, ap (ended_so AtAnswer) is))))

  module _ (course rest : Course Database) (goes_on : answer.goes_on ≡ true) (is : course ≡ preceded answer.reply rest) where
    -- or with a later one of those before
    later_within : (more : List (List ℕ)) → EndsWithin next more rest → EndsWithin start (line ∷ more) course
    later_within more (ends, (ending, session)) = (
      λ same. ends (sym (ap ending_of is) ∙ same),
      (ending, inr (answer, next, answered, inr (goes_on, (ended_so ending rest, session, ap (ended_so ending) is)))),
    )

    -- a later line is answered
    later_turn : (more : List (List ℕ)) (text : List ℕ) (later : List (List ℕ)) → HasTurn next more text later rest → HasTurn start (line ∷ more) text later course
    later_turn more text later turn =
        let until : Course Database = record { out = turn.front; ending = AtEnd; last = turn.old } in
        record {
          front = answer.reply ++ turn.front;
          old = turn.old;
          reached = inr (answer, next, answered, inr (goes_on, (until, turn.reached, refl)));
          same_model = turn.same_model ∙ line_keeps start.responder next.responder line answer answered.answered;
          answer = turn.answer;
          new = turn.new;
          answered = turn.answered;
          rest = turn.rest;
          behind = turn.behind;
          out = ap out_of is
              ∙ (ap (λ (l : List ℕ). answer.reply ++ l) turn.out ∙ sym (append_assoc answer.reply turn.front (turn.answer.reply ++ turn.rest)));
        }

-- ---- each line

turn_or_end : (start : Standing Database) (before : List (List ℕ)) (line : List ℕ) (later : List (List ℕ)) (course : Course Database)
    → Session AnswersLine start (before ++ line ∷ later) course → EndsWithin start before course ⊎ HasTurn start before line later course
turn_or_end start [] line later course (inl (over, is)) = inl (limit_within start [] course AtEnd is (ap (ended_so AtEnd) is))
turn_or_end start [] line later course (inr (answer, next, answered, goes)) = inr (first_turn start line answer next answered later course goes)
turn_or_end start (first ∷ more) line later course (inl (over, is)) =
    inl (limit_within start (first ∷ more) course AtLimit is (inl (over, ap (ended_so AtLimit) is)))
turn_or_end start (first ∷ more) line later course (inr (answer, next, answered, inl (quits, is))) =
    inl (quits_within start first answer next answered more course quits is)
turn_or_end start (first ∷ more) line later course (inr (answer, next, answered, inr (goes_on, (rest, session, is)))) =
    elim (turn_or_end next more line later rest session) [
      | inl ends ↦ inl (later_within start first answer next answered course rest goes_on is more ends)
      | inr turn ↦ inr (later_turn start first answer next answered course rest goes_on is more line later turn)
    ]

pub solved_ends : PrintedEndsProve → SolvedEndsProve
solved_ends printed start lines course session before line later split =
    elim (turn_or_end start before line later course (subst (λ all. Session AnswersLine start all course) split session)) [
      | inl ends ↦ inl ends
      | inr turn ↦ inr (
        turn,
        λ steps bound asks. printed turn.old.responder turn.new.responder line bound steps turn.answer asks turn.answered.answered,
      )
    ]
