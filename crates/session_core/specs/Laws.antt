-- What the reply to a search proves, and what a session is made of.
use Rattle.std.specs.Prelude.{◌≡◌, ◌≢◌, ℕ, ◌≤◌, ◌⊎◌, Bool, true, false, List, [], ◌∷◌, ◌++◌, codes, Ok}
use Rattle.std.specs.Fmt.{decimal}
use Rattle.session_loop.specs.declared.reply.Answer.{Answer}
use Rattle.session_loop.specs.Sessions.{Standing, Ending, AtEnd, Course, IsAnswered, Session}
use Rattle.model_core.specs.History.{standing}
use Rattle.plan_text.specs.PlanTexts.{IsPlanText}
use Rattle.plan_db.specs.Database.{Database}
use Rattle.plan_defs.specs.declared.plan.Plan.{Plan}
use Rattle.plan_defs.specs.Broken.{AgreesWith}
use Rattle.plan_defs.specs.Valid.{IsValid}
use Rattle.law_search.specs.Search.{SearchOutcome, Stops, Searches}
use Rattle.law_search.specs.SearchLaws.{IsPlanFor}
use Rattle.law_search.specs.SwapLaws.{count_of_tokens}
use Rattle.script_lang.specs.declared.command.Command.TheVariants.{Solve}
use Rattle.script_lang.specs.Line.{ReadsLine}
use Rattle.session_replies.specs.Lines.{with_line_feed}
use Rattle.session_replies.specs.Texts.{bound_text}
use Rattle.session_core.specs.LineReplies.{AnswersLine}

-- `found V` and the text of a plan that is valid, and agrees with the decisions that stood and with those that stand now
pub record ProvesPlan (old new : Database) (steps : ℕ) (reply : List ℕ) : Type 0 where
  pub visits : ℕ
  pub few : visits ≤ steps
  pub text : List ℕ
  pub shows : reply ≡ with_line_feed (codes "found " ++ decimal visits) ++ text
  pub plan : Plan
  pub is_text : IsPlanText old.model plan text
  pub valid : IsValid old.model plan
  pub agrees_before : AgreesWith old.model plan (standing old.history)
  pub agrees_now : AgreesWith old.model plan (standing new.history)

-- `exhausted V`, or that and ` bound`: no valid plan within the bound agrees with the decisions that stand, and without ` bound`
-- none of any size does
pub record ProvesNone (old : Database) (bound steps : ℕ) (reply : List ℕ) : Type 0 where
  pub visits : ℕ
  pub few : visits ≤ steps
  pub left_out : Bool
  pub shows : reply ≡ with_line_feed (codes "exhausted " ++ (decimal visits ++ bound_text left_out))
  pub none : (plan : Plan)
      → IsPlanFor old.model (standing old.history) plan → (count_of_tokens plan ≤ bound) ⊎ (left_out ≡ false) → ⊥

-- `budget V`: V is as many visits as may be, and the search asks for one more
pub record TellsBudget (old : Database) (bound steps : ℕ) (reply : List ℕ) : Type 0 where
  pub shows : reply ≡ with_line_feed (codes "budget " ++ decimal steps)
  pub outcome : SearchOutcome
  pub searches : Searches old.model bound steps (standing old.history) outcome
  pub stops : outcome.ending ≡ Stops

-- where the reply begins with this word, this is so
abbrev pub BeginsOnlyIf : List ℕ → List ℕ → Type 0 → Type 0
BeginsOnlyIf word reply Meaning = (rest : List ℕ) → reply ≡ word ++ rest → Meaning

-- what the first word of the reply to a search proves
pub record ProvesEnd (old new : Database) (bound steps : ℕ) (reply : List ℕ) : Type 0 where
  pub found : BeginsOnlyIf (codes "found") reply (ProvesPlan old new steps reply)
  pub exhausted : BeginsOnlyIf (codes "exhausted") reply (ProvesNone old bound steps reply)
  pub budget : BeginsOnlyIf (codes "budget") reply (TellsBudget old bound steps reply)

-- a line that asks for a search with so many visits under the bound has such a reply
abbrev pub PrintedEndsProve : Type 0
PrintedEndsProve =
    (old new : Database) (line : List ℕ) (bound steps : ℕ) (answer : Answer)
    → ReadsLine line (Ok (Solve steps bound)) → AnswersLine old line answer new
    → ProvesEnd old new bound steps answer.reply

-- ---- along a session

-- the session has ended within these lines, or where the next one came: all that it wrote is the output of these
abbrev pub EndsWithin : Standing Database → List (List ℕ) → Course Database → Type 0
EndsWithin start before course =
    (course.ending ≢ AtEnd)
    × ((ending : Ending) × Session AnswersLine start before (record { out = course.out; ending = ending; last = course.last }))

-- what is written behind this answer: nothing where it ends the session, and else the output of the later lines
abbrev pub IsWrittenBehind : Answer → Standing Database → List (List ℕ) → List ℕ → Type 0
IsWrittenBehind answer new later rest =
    ((answer.goes_on ≡ false) × (rest ≡ []))
    ⊎ ((answer.goes_on ≡ true) × ((course : Course Database) × (Session AnswersLine new later course × (rest ≡ course.out))))

-- The line has this answer in the session. Those before it are answered, and leave a database of the same model. The output is
-- that of those before it, then its reply, and then what is written behind.
pub record HasTurn (start : Standing Database) (before : List (List ℕ)) (line : List ℕ) (later : List (List ℕ))
    (course : Course Database) : Type 0 where
  pub front : List ℕ
  pub old : Standing Database
  pub reached : Session AnswersLine start before (record { out = front; ending = AtEnd; last = old })
  pub same_model : old.responder.model ≡ start.responder.model
  pub answer : Answer
  pub new : Standing Database
  pub answered : IsAnswered AnswersLine old line answer new
  pub rest : List ℕ
  pub behind : IsWrittenBehind answer new later rest
  pub out : course.out ≡ front ++ (answer.reply ++ rest)

-- the line has an answer, and where it asks for a search the reply proves what it says of the database that it finds
abbrev pub ProvesTurn : Standing Database → List (List ℕ) → List ℕ → List (List ℕ) → Course Database → Type 0
ProvesTurn start before line later course =
    (turn : HasTurn start before line later course)
    × ((steps bound : ℕ) → ReadsLine line (Ok (Solve steps bound))
    → ProvesEnd turn.old.responder turn.new.responder bound steps turn.answer.reply)

-- so it is with each of the lines, unless the session has ended before it
abbrev pub ProvesLines : Standing Database → List (List ℕ) → Course Database → Type 0
ProvesLines start lines course =
    (before : List (List ℕ)) (line : List ℕ) (later : List (List ℕ)) → lines ≡ before ++ line ∷ later
    → EndsWithin start before course ⊎ ProvesTurn start before line later course

-- each session is made of its replies so
abbrev pub SolvedEndsProve : Type 0
SolvedEndsProve =
    (start : Standing Database) (lines : List (List ℕ)) (course : Course Database)
    → Session AnswersLine start lines course → ProvesLines start lines course
