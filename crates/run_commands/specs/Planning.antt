-- What `plan` prints: what is wrong with the problem, or the end of the search with the plan that it finds.
use Rattle.std.specs.Prelude.{ℕ, List, Option}
use Rattle.eu_io.specs.declared.shelf.FileEntry.{FileEntry}
use Rattle.run_commands.specs.declared.status.RunEnd.{RunEnd}
use Rattle.run_commands.specs.Posing.{PosedOutput}
use Rattle.run_commands.specs.Searching.{SearchOutput, visits_of}

-- the search from the decisions of the text, in so many visits as are given or else as the text allows, and under the bound
abbrev pub PlanOutput : List FileEntry → List ℕ → Option ℕ → ℕ → List ℕ → RunEnd → Type 0
PlanOutput files file steps bound out end =
    PosedOutput files file (λ database. SearchOutput bound (visits_of steps database.model) database) out end
