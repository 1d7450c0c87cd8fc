-- The words ask for one thing, so that their output is what that gives, and what a request gives is one.
use Rattle.std.proofs.Common.{ℕ, List, sym, ap, ◌∙◌, subst, inl, inr}
use Rattle.run_words.specs.declared.request.Request.{Request}
use Rattle.run_words.specs.declared.request.Request.TheVariants.{Plan, Script, Check, Show, Generate, Try}
use Rattle.run_words.specs.Requests.{Asks}
use Rattle.run_words.proofs.Asking.{asks_once}
use Rattle.eu_io.specs.Files.{file_named}
use Rattle.session_loop.specs.Ends.{begun}
use Rattle.session_loop.specs.Laws.{HasOneReply}
use Rattle.session_loop.specs.Lines.{lines_of}
use Rattle.session_loop.specs.Sessions.{Course}
use Rattle.session_loop.proofs.LawLemmas.{session_is_one}
use Rattle.plan_db.specs.Database.{Database}
use Rattle.law_states.specs.Soundness.{StatesHaveOnePlan}
use Rattle.plan_report.specs.Laws.{TextsAreCheckedOnce}
use Rattle.run_load.specs.Laws.{IsPosedOnce, PosedIsSound}
use Rattle.run_commands.specs.Checking.{PlanFileOutput}
use Rattle.run_commands.specs.Searching.{SearchOutput, visits_of}
use Rattle.run_commands.specs.declared.status.RunEnd.{RunEnd}
use Rattle.session_core.specs.LineReplies.{AnswersLine}
use Rattle.europa_run.specs.Output.{Given, end_of, SessionOutput, RequestOutput, Output}
use Rattle.europa_run.specs.Pieces.{IsInRange}
use Rattle.europa_run.proofs.Printing.{IsOne, posed_one, show_one, plan_file_one}
use Rattle.europa_run.proofs.Searching.{search_output_one, try_one}

-- only what the request gives is the output of the words
pub only_output : (words : List (List ℕ)) (request : Request (List ℕ)) (given : Given) (out : List ℕ) (end : RunEnd) → Asks words request
    → Output words given out end → RequestOutput request given out end
only_output words request given out end asks (inl unasked) = absurd (unasked.0 request asks)
only_output words request given out end asks (inr asked) =
    subst (λ (r : Request (List ℕ)). RequestOutput r given out end) (asks_once words asked.0 request asked.1.0 asks) asked.1.1

session_one : HasOneReply AnswersLine → (input : List ℕ) (database : Database) → IsOne (SessionOutput input database)
session_one one_reply input database out other end last p q =
    let same = session_is_one AnswersLine one_reply (begun database) (lines_of input) p.0 q.0 p.1.0 q.1.0 in (
      q.1.1 ∙ (ap (λ (c : Course Database). c.out) same ∙ sym p.1.1),
      q.1.2 ∙ (ap (λ (c : Course Database). end_of c.ending) same ∙ sym p.1.2),
    )

module _ (posed_once : IsPosedOnce) (sound : PosedIsSound) (one_reply : HasOneReply AnswersLine) (checked_once : TextsAreCheckedOnce) (one_plan : StatesHaveOnePlan) where
  pub request_one : (request : Request (List ℕ)) (given : Given) → IsInRange request → IsOne (RequestOutput request given)
  request_one (Plan file steps tokens) given range =
      posed_one posed_once given.files file (λ database. SearchOutput tokens (visits_of steps database.model) database)
      (λ database posed. search_output_one one_plan tokens (visits_of steps database.model) range.1 database (sound given.files file database posed))
  request_one (Script file) given range =
      posed_one posed_once given.files file (SessionOutput given.input) (λ database posed. session_one one_reply given.input database)
  request_one (Check file plan) given range =
      posed_one posed_once given.files file (λ database. PlanFileOutput database.model plan (file_named plan given.files))
      (λ database posed. plan_file_one checked_once database.model (sound given.files file database posed).lawful plan (file_named plan given.files))
  request_one (Show file) given range = show_one file (file_named file given.files)
  request_one (Generate number) given range = λ out other end last p q. (q.0 ∙ sym p.0, q.1 ∙ sym p.1)
  request_one (Try number) given range = try_one one_plan posed_once sound number
