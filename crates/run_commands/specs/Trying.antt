-- What `try` prints.
use Rattle.std.specs.Prelude.{◌≡◌, ℕ, List, [], ◌∷◌, ◌++◌, codes}
use Rattle.std.specs.Fmt.{decimal}
use Rattle.eu_io.specs.declared.shelf.FileEntry.{FileEntry}
use Rattle.model_core.specs.declared.decision.Decision.{Decision}
use Rattle.model_core.specs.declared.model.Model.{Model}
use Rattle.model_core.specs.History.{standing}
use Rattle.model_core.specs.State.{State}
use Rattle.plan_db.specs.Database.{Database, HasLeast}
use Rattle.plan_defs.specs.declared.plan.Plan.{Plan}
use Rattle.plan_defs.specs.Valid.{IsValid}
use Rattle.plan_defs.specs.StatePlans.{IsStatePlan}
use Rattle.plan_report.specs.declared.counting.Counts.{Counts}
use Rattle.plan_report.specs.Counting.{AreCounts, counts_text}
use Rattle.problem_gen.specs.Generated.{generated_text}
use Rattle.session_replies.specs.Texts.{TellsSearch}
use Rattle.flaw_core.specs.declared.ending.SearchEnd.{SearchEnd}
use Rattle.flaw_core.specs.declared.ending.SearchEnd.TheVariants.{Found, Exhausted, Budget}
use Rattle.run_commands.specs.declared.status.RunEnd.{RunEnd}
use Rattle.run_commands.specs.Posing.{PosedOutput}
use Rattle.run_commands.specs.Searching.{EndOutput}

-- ---- a plan that is found

-- the number of visits, those of tokens, and the verdict on the plan
abbrev pub found_text : ℕ → Counts → List ℕ → List ℕ
found_text visits counts verdict = codes "found " ++ (decimal visits ++ (codes "\n" ++ (counts_text counts ++ verdict)))

-- how many tokens of the plan take place and are merged, and that it is valid
abbrev pub IsFoundText : ℕ → Plan → List ℕ → Type 0
IsFoundText visits plan text =
    (counts : Counts) × (AreCounts plan counts × (text ≡ found_text visits counts (codes "valid\n")))

-- the same of the plan of the state, which is valid
abbrev pub TellsState : ℕ → Model → List Decision → State → List ℕ → Type 0
TellsState visits model decisions state text =
    (plan : Plan) × (IsStatePlan model decisions state plan × IsValid model plan × IsFoundText visits plan text)

-- how the search ended, and of the plan of what it found its numbers and that it is valid
abbrev pub TellsTrial : SearchEnd → Database → List ℕ → Type 0
TellsTrial (Found visits) database text =
    (state : State) × (HasLeast database state × TellsState visits database.model (standing database.history) state text)
TellsTrial (Exhausted visits left_out) database text = TellsSearch (Exhausted visits left_out) database text
TellsTrial (Budget visits) database text = TellsSearch (Budget visits) database text

-- ---- trials

-- the generated text is the only file there is
abbrev pub generated_files : ℕ → List FileEntry
generated_files number = record { name = codes "gen"; bytes = generated_text number } ∷ []

-- the search from the decisions of the text in as many visits as it allows, with at most 512 active tokens
abbrev pub TrialOutput : Database → List ℕ → RunEnd → Type 0
TrialOutput database out end = EndOutput 512 database.model.problem.steps TellsTrial database out end

-- what is wrong with the generated text is printed, and else what is told of the search
abbrev pub BodyOutput : ℕ → List ℕ → RunEnd → Type 0
BodyOutput number out end = PosedOutput (generated_files number) (codes "gen") TrialOutput out end

-- the line of the number, and behind it the rest
abbrev pub TryOutput : ℕ → List ℕ → RunEnd → Type 0
TryOutput number out end =
    (body : List ℕ) × (BodyOutput number body end × (out ≡ codes "try " ++ (decimal number ++ (codes "\n" ++ body))))
