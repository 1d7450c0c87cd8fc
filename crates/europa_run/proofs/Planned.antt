-- What the output of words that ask for a plan proves.
use Rattle.std.proofs.Common.{ℕ, ◌≤◌, List, sym, subst}
use Rattle.run_words.specs.declared.request.Request.TheVariants.{Plan}
use Rattle.model_core.specs.History.{standing}
use Rattle.plan_db.specs.Database.{Database, IsSound}
use Rattle.law_search.specs.Search.{SearchOutcome, Searches}
use Rattle.run_load.specs.Laws.{IsPosedOnce, PosedIsSound}
use Rattle.run_commands.specs.Searching.{SearchOutput, end_of, visits_of}
use Rattle.run_commands.specs.declared.status.RunEnd.{RunEnd}
use Rattle.run_commands.specs.Searching.{TellsSearch}
use Rattle.session_core.proofs.Answering.{standing_settled}
use Rattle.session_core.proofs.Ending.{found_proves, exhausted_proves, budget_tells}
use Rattle.flaw_core.specs.declared.ending.SearchEnd.{SearchEnd}
use Rattle.flaw_core.specs.declared.ending.SearchEnd.TheVariants.{Found, Exhausted, Budget}
use Rattle.solver_core.specs.Solving.{TellsEnd}
use Rattle.europa_run.specs.Laws.{ProvesSearch, PlannedEndsProve}
use Rattle.europa_run.proofs.Printing.{posed_output}
use Rattle.europa_run.proofs.Ranging.{asked_in_range}
use Rattle.europa_run.proofs.Requests.{only_output}

module _ (old : Database) (sound : IsSound old) (bound steps : ℕ) (few : bound ≤ 512) (new : Database) (out : List ℕ) (outcome : SearchOutcome)
    (searches : Searches old.model bound steps (standing old.history) outcome) where
  end_proves : (ending : SearchEnd) → TellsEnd steps outcome old ending new → TellsSearch ending new out → ProvesSearch old bound steps out (end_of ending)
  end_proves (Found visits) ends tells =
      (new, found_proves old sound.lawful (standing_settled old.model old.history sound.history) bound steps few new out outcome visits searches ends tells)
  end_proves (Exhausted visits left_out) ends tells =
      exhausted_proves old sound.lawful (standing_settled old.model old.history sound.history) bound steps few new out outcome visits left_out searches ends tells
  end_proves (Budget visits) ends tells =
      budget_tells old sound.lawful (standing_settled old.model old.history sound.history) bound steps few new out outcome visits searches ends tells

search_proves : (old : Database) → IsSound old → (bound steps : ℕ) → bound ≤ 512 → (out : List ℕ) (end : RunEnd) → SearchOutput bound steps old out end → ProvesSearch old bound steps out end
search_proves old sound bound steps few out end (ending, (new, ((outcome, (searches, ends)), tells, is))) =
    subst (λ (e : RunEnd). ProvesSearch old bound steps out e) (sym is) (end_proves old sound bound steps few new out outcome searches ending ends tells)

pub planned_proves : IsPosedOnce → PosedIsSound → PlannedEndsProve
planned_proves posed_once sound words given file steps bound database asks posed out end output =
    search_proves database (sound given.files file database posed) bound (visits_of steps database.model) (asked_in_range words (Plan file steps bound) asks).1 out end
    (posed_output posed_once given.files file (λ found. SearchOutput bound (visits_of steps found.model) found) database out end posed
    (only_output words (Plan file steps bound) given out end asks output))
