-- Words have an output.
use Rattle.std.proofs.Common.{◌≡◌, ℕ, ◌≤◌, true, false, inl, inr, List, ◌++◌, Option, refl, codes}
use Rattle.std.specs.Fmt.{decimal}
use Rattle.law_states.specs.Undeniable.{Undeniable}
use Rattle.law_states.proofs.Denying.{is_or_not}
use Rattle.eu_io.specs.Files.{file_named}
use Rattle.plan_db.specs.Database.{Database, IsSound}
use Rattle.problem_gen.specs.Generated.{generated_text}
use Rattle.plan_verdicts.proofs.Checking.{texts_are_checked}
use Rattle.run_words.specs.declared.request.Request.{Request}
use Rattle.run_words.specs.declared.request.Request.TheVariants.{Plan, Script, Check, Show, Generate, Try}
use Rattle.run_words.specs.Requests.{Asks}
use Rattle.run_load.specs.Laws.{PosedIsSound}
use Rattle.run_commands.specs.Checking.{PlanFileOutput}
use Rattle.run_commands.specs.Printed.{usage_line}
use Rattle.run_commands.specs.Searching.{SearchOutput, visits_of}
use Rattle.run_commands.specs.Trying.{TrialOutput, generated_files}
use Rattle.run_commands.specs.declared.status.RunEnd.TheVariants.{Done, Usage}
use Rattle.session_core.proofs.ExistingLines.{lines_have_sessions}
use Rattle.session_loop.specs.Ends.{begun}
use Rattle.session_loop.specs.Lines.{lines_of}
use Rattle.europa_run.specs.Output.{Given, end_of, SessionOutput, RequestOutput, is_script}
use Rattle.europa_run.specs.Pieces.{IsInRange}
use Rattle.europa_run.proofs.Ranging.{asked_in_range}
use Rattle.europa_outputs.specs.Outputs.{HasOutput, HasUnjudgedFiles, HasJudgedFiles, CommandsHaveOutputs, WordsHaveAnOutput}
use Rattle.europa_outputs.proofs.Posing.{files_pose}
use Rattle.europa_outputs.proofs.Printing.{posed_some, show_some, plan_file_some}
use Rattle.europa_outputs.proofs.Searching.{search_some, trial_some}

-- ---- requests

module _ (posed_sound : PosedIsSound) where
  plan_some : (file : List ℕ) (steps : Option ℕ) (tokens : ℕ) (given : Given) → tokens ≤ 512 → (HasUnjudgedFiles given.files file → ⊥)
      → Undeniable (HasOutput (RequestOutput (Plan file steps tokens) given))
  plan_some file steps tokens given few judged none =
      posed_some given.files file (λ database. SearchOutput tokens (visits_of steps database.model) database)
      (λ database posed. search_some database (posed_sound given.files file database posed) tokens (visits_of steps database.model) few)
      (files_pose given.files file judged) none

  check_some : (file plan : List ℕ) (given : Given) → (HasUnjudgedFiles given.files file → ⊥) → Undeniable (HasOutput (RequestOutput (Check file plan) given))
  check_some file plan given judged none =
      posed_some given.files file (λ database. PlanFileOutput database.model plan (file_named plan given.files))
      (λ database posed. plan_file_some texts_are_checked database.model (posed_sound given.files file database posed).lawful plan (file_named plan given.files))
      (files_pose given.files file judged) none

  try_some : (number : ℕ) (given : Given) → (HasUnjudgedFiles (generated_files number) (codes "gen") → ⊥) → Undeniable (HasOutput (RequestOutput (Try number) given))
  try_some number given judged none =
      posed_some (generated_files number) (codes "gen") TrialOutput
      (λ database posed. trial_some database (posed_sound (generated_files number) (codes "gen") database posed) database.model.problem.steps)
      (files_pose (generated_files number) (codes "gen") judged)
      (λ found. none (codes "try " ++ (decimal number ++ (codes "\n" ++ found.0)), (found.1.0, (found.0, (found.1.1, refl)))))

  -- what is asked for that is no script
  command_some : (request : Request (List ℕ)) (given : Given) → IsInRange request → is_script request ≡ false → HasJudgedFiles request given
      → Undeniable (HasOutput (RequestOutput request given))
  command_some (Plan file steps tokens) given range plain judged none = plan_some file steps tokens given range.1 judged none
  command_some (Script file) given range plain judged none = let e : true ≡ false = plain in let no : ⊥ = cc in no
  command_some (Check file plan) given range plain judged none = check_some file plan given judged none
  command_some (Show file) given range plain judged none = show_some file (file_named file given.files) none
  command_some (Generate number) given range plain judged none = none (generated_text number, (Done, (refl, refl)))
  command_some (Try number) given range plain judged none = try_some number given judged none

  -- ---- sessions

  session_some : (input : List ℕ) (database : Database) → IsSound database → Undeniable (HasOutput (SessionOutput input database))
  session_some input database sound none = lines_have_sessions (begun database) (lines_of input) sound (λ found.
      none (found.0.out, (end_of found.0.ending, (found.0, (found.1, refl, refl)))))

  script_some : (file : List ℕ) (given : Given) → (HasUnjudgedFiles given.files file → ⊥) → Undeniable (HasOutput (RequestOutput (Script file) given))
  script_some file given judged none =
      posed_some given.files file (SessionOutput given.input)
      (λ database posed. session_some given.input database (posed_sound given.files file database posed))
      (files_pose given.files file judged) none

  request_some : (request : Request (List ℕ)) (given : Given) → IsInRange request → HasJudgedFiles request given
      → Undeniable (HasOutput (RequestOutput request given))
  request_some (Script file) given range judged none = script_some file given judged none
  request_some (Plan file steps tokens) given range judged none = command_some (Plan file steps tokens) given range refl judged none
  request_some (Check file plan) given range judged none = command_some (Check file plan) given range refl judged none
  request_some (Show file) given range judged none = command_some (Show file) given range refl judged none
  request_some (Generate number) given range judged none = command_some (Generate number) given range refl judged none
  request_some (Try number) given range judged none = command_some (Try number) given range refl judged none

pub commands_have_outputs : PosedIsSound → CommandsHaveOutputs
commands_have_outputs posed_sound words request given asks plain judged none =
    command_some posed_sound request given (asked_in_range words request asks) plain judged none

pub words_have_an_output : PosedIsSound → WordsHaveAnOutput
words_have_an_output posed_sound words given judged none = is_or_not ((request : Request (List ℕ)) × Asks words request) (λ which. elim which [
  | inl asked ↦ request_some posed_sound asked.0 given (asked_in_range words asked.0 asked.1) (judged asked.0 asked.1) (λ found.
      none (found.0, (found.1.0, inr (asked.0, (asked.1, found.1.1)))))
  | inr unasked ↦ none (usage_line, (Usage, inl ((λ request asks. unasked (request, asks)), (refl, refl))))
])
