-- What `check` prints: what is wrong with the problem or its plan, or that the plan is valid.
use Rattle.std.specs.Prelude.{◌≡◌, ℕ, Bool, true, false, List, Option}
use Rattle.eu_io.specs.Files.{file_named}
use Rattle.eu_io.specs.declared.shelf.FileEntry.{FileEntry}
use Rattle.model_core.specs.declared.model.Model.{Model}
use Rattle.plan_report.specs.Verdicts.{ChecksAs}
use Rattle.run_commands.specs.declared.status.RunEnd.{RunEnd}
use Rattle.run_commands.specs.declared.status.RunEnd.TheVariants.{Done, NotAPlan}
use Rattle.run_commands.specs.Contents.{ContentOutput}
use Rattle.run_commands.specs.Posing.{PosedOutput}

-- how a run ends that checked a plan
abbrev pub checked_end : Bool → RunEnd
checked_end true = Done
checked_end false = NotAPlan

-- the line of the text over the model
abbrev pub CheckedOutput : Model → List ℕ → List ℕ → RunEnd → Type 0
CheckedOutput model text out end = (is_valid : Bool) × (ChecksAs model text out is_valid × (end ≡ checked_end is_valid))

-- what a plan's file with this content gives
abbrev pub PlanFileOutput : Model → List ℕ → Option (List ℕ) → List ℕ → RunEnd → Type 0
PlanFileOutput model plan content out end = ContentOutput plan content (CheckedOutput model) out end

-- what is wrong with the problem is printed, and else what the plan's file gives
abbrev pub CheckOutput : List FileEntry → List ℕ → List ℕ → List ℕ → RunEnd → Type 0
CheckOutput files file plan out end =
    PosedOutput files file (λ database. PlanFileOutput database.model plan (file_named plan files)) out end
