-- Laws of runs.
use Rattle.std.specs.Prelude.{◌≡◌, ℕ, ◌≤◌, List, ◌++◌, codes, Option, Err}
use Rattle.std.specs.Fmt.{decimal}
use Rattle.run_words.specs.declared.request.Request.TheVariants as requests
use Rattle.run_words.specs.Requests.{Asks}
use Rattle.session_loop.specs.Ends.{begun}
use Rattle.session_loop.specs.Laws.{IsFront}
use Rattle.session_loop.specs.Lines.{lines_of}
use Rattle.session_loop.specs.Sessions.{Course, Session}
use Rattle.model_core.specs.History.{standing}
use Rattle.model_core.specs.State.{State}
use Rattle.plan_db.specs.Database.{Database}
use Rattle.plan_defs.specs.declared.plan.Plan.{Plan}
use Rattle.plan_defs.specs.Broken.{AgreesWith}
use Rattle.plan_defs.specs.Closure.{IsLeast}
use Rattle.plan_defs.specs.StatePlans.{IsStatePlan}
use Rattle.plan_defs.specs.Valid.{IsValid}
use Rattle.run_load.specs.Posing.{IsPosed}
use Rattle.run_commands.specs.Searching.{visits_of}
use Rattle.run_commands.specs.Trying.{IsFoundText, generated_files}
use Rattle.run_commands.specs.declared.status.RunEnd.{RunEnd}
use Rattle.run_commands.specs.declared.status.RunEnd.TheVariants.{Done, Exhausted, Budget}
use Rattle.session_core.specs.LineReplies.{AnswersLine}
use Rattle.session_core.specs.Laws.{ProvesPlan, ProvesNone, TellsBudget, ProvesLines}
use Rattle.europa_run.specs.declared.stopping.Halt.{Halt}
use Rattle.europa_run.specs.Output.{Given, Output}
use Rattle.europa_run.specs.Runs.{Leavings, RunLeaves}

-- over the same files and input words have one output, and one end
abbrev pub HasOneOutput : Type 0
HasOneOutput = (words : List (List ℕ)) (given : Given) (out other : List ℕ) (end last : RunEnd)
    → Output words given out end → Output words given other last → (other ≡ out) × (last ≡ end)

-- what was written before a fault comes first in the defined output, whatever that is
abbrev pub FaultLeavesFront : Type 0
FaultLeavesFront =
    (words : List (List ℕ)) (given : Given) (leavings : Leavings) (halt : Halt)
    → RunLeaves words given leavings (Err halt)
    → (whole : List ℕ) (end : RunEnd) → Output words given whole end → IsFront leavings.out whole

-- What the output of a search from the database proves by its end. Done: it is the text of a plan that is valid and agrees with the
-- decisions that stand. Exhausted: no valid plan within the bound agrees with them, or none of any size. Budget: the search needs
-- more visits than so many. It has no other end.
abbrev pub ProvesSearch : Database → ℕ → ℕ → List ℕ → RunEnd → Type 0
ProvesSearch database bound steps out Done = (new : Database) × ProvesPlan database new steps out
ProvesSearch database bound steps out Exhausted = ProvesNone database bound steps out
ProvesSearch database bound steps out Budget = TellsBudget database bound steps out
ProvesSearch database bound steps out end = ⊥

-- what the output of words that ask for a plan proves, where the file poses a database
abbrev pub PlannedEndsProve : Type 0
PlannedEndsProve =
    (words : List (List ℕ)) (given : Given) (file : List ℕ) (steps : Option ℕ) (bound : ℕ) (database : Database)
    → Asks words (requests.Plan file steps bound) → IsPosed given.files file database
    → (out : List ℕ) (end : RunEnd) → Output words given out end
    → ProvesSearch database bound (visits_of steps database.model) out end

-- `found V`, the counts and `valid`: these are the counts of the plan of the state that is found, which is valid, and agrees with
-- the decisions that stood and with those that stand now
pub record ProvesTrial (old new : Database) (steps : ℕ) (body : List ℕ) : Type 0 where
  pub visits : ℕ
  pub few : visits ≤ steps
  pub state : State
  pub least : IsLeast old.model (standing new.history) state
  pub plan : Plan
  pub is_plan : IsStatePlan old.model (standing new.history) state plan
  pub shows : IsFoundText visits plan body
  pub valid : IsValid old.model plan
  pub agrees_before : AgreesWith old.model plan (standing old.history)
  pub agrees_now : AgreesWith old.model plan (standing new.history)

-- What is told of a trial from the database proves by its end: as `ProvesSearch`, but where it is done the plan isn't printed.
abbrev pub ProvesTried : Database → ℕ → ℕ → List ℕ → RunEnd → Type 0
ProvesTried database bound steps body Done = (new : Database) × ProvesTrial database new steps body
ProvesTried database bound steps body Exhausted = ProvesNone database bound steps body
ProvesTried database bound steps body Budget = TellsBudget database bound steps body
ProvesTried database bound steps body end = ⊥

-- what the output of words that ask for a trial proves behind its first line, where the generated text poses a database
abbrev pub TriedEndsProve : Type 0
TriedEndsProve =
    (words : List (List ℕ)) (given : Given) (number : ℕ) (database : Database)
    → Asks words (requests.Try number) → IsPosed (generated_files number) (codes "gen") database
    → (out : List ℕ) (end : RunEnd) → Output words given out end
    → (body : List ℕ) × (out ≡ codes "try " ++ (decimal number ++ (codes "\n" ++ body)))
    × ProvesTried database 512 database.model.problem.steps body end

-- what the output of words that ask for a script proves, where the file poses a database: it is that of a session, of whose lines
-- each reply to a search proves what it says
abbrev pub ScriptedEndsProve : Type 0
ScriptedEndsProve =
    (words : List (List ℕ)) (given : Given) (file : List ℕ) (database : Database)
    → Asks words (requests.Script file) → IsPosed given.files file database
    → (out : List ℕ) (end : RunEnd) → Output words given out end
    → (course : Course Database) × (out ≡ course.out) × Session AnswersLine (begun database) (lines_of given.input) course
    × ProvesLines (begun database) (lines_of given.input) course
