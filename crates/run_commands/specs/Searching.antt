-- The search of a command, and what is printed of it.
use Rattle.std.specs.Prelude.{◌≡◌, ℕ, false, List, Option, Some, None}
use Rattle.model_core.specs.declared.model.Model.{Model}
use Rattle.model_core.specs.History.{standing}
use Rattle.plan_db.specs.Database.{Database}
use Rattle.law_search.specs.Search.{SearchOutcome, Searches}
pub use Rattle.session_replies.specs.Texts.{TellsSearch}
use Rattle.flaw_core.specs.declared.ending.SearchEnd.{SearchEnd}
use Rattle.flaw_core.specs.declared.ending.SearchEnd.TheVariants.{Found, Exhausted, Budget}
use Rattle.solver_core.specs.Solving.{TellsEnd}
use Rattle.run_commands.specs.declared.status.RunEnd.{RunEnd}
use Rattle.run_commands.specs.declared.status.RunEnd.TheVariants as run

-- the search from the decisions that stand, under the bound and with so many visits, ends so and leaves that database
abbrev pub SearchesTo : ℕ → ℕ → Database → SearchEnd → Database → Type 0
SearchesTo bound budget old end new =
    (outcome : SearchOutcome)
    × (Searches old.model bound budget (standing old.history) outcome × TellsEnd budget outcome old end new)

-- how the search from decisions that leave nothing ends
abbrev pub collapsed_end : SearchEnd
collapsed_end = Exhausted 1 false

-- how a run ends whose search ended so
abbrev pub end_of : SearchEnd → RunEnd
end_of (Found visits) = run.Done
end_of (Exhausted visits left_out) = run.Exhausted
end_of (Budget visits) = run.Budget

-- what is told of a search from the database
abbrev pub EndOutput : ℕ → ℕ → (SearchEnd → Database → List ℕ → Type 0) → Database → List ℕ → RunEnd → Type 0
EndOutput bound budget Tells old out end =
    (ending : SearchEnd) × ((new : Database) × (SearchesTo bound budget old ending new × Tells ending new out
    × (end ≡ end_of ending)))

-- its end is printed, and behind it the plan that it finds
abbrev pub SearchOutput : ℕ → ℕ → Database → List ℕ → RunEnd → Type 0
SearchOutput bound budget old out end = EndOutput bound budget TellsSearch old out end

-- the visits that are given, or else those of the model's text
abbrev pub visits_of : Option ℕ → Model → ℕ
visits_of None model = model.problem.steps
visits_of (Some steps) model = steps
