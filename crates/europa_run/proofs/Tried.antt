-- What the output of words that ask for a trial proves.
use Rattle.std.proofs.Common.{◌≡◌, ℕ, ◌≤◌, List, sym, subst, codes, arith}
use Rattle.run_words.specs.declared.request.Request.TheVariants.{Try}
use Rattle.model_core.specs.History.{standing}
use Rattle.plan_db.specs.Database.{Database, IsSound, taken_in}
use Rattle.law_search.specs.Search.{SearchOutcome, Searches}
use Rattle.run_load.specs.Laws.{IsPosedOnce, PosedIsSound}
use Rattle.run_commands.specs.Searching.{EndOutput, end_of}
use Rattle.run_commands.specs.Trying.{TellsTrial, TrialOutput, TryOutput, generated_files}
use Rattle.run_commands.specs.declared.status.RunEnd.{RunEnd}
use Rattle.session_core.proofs.Answering.{standing_settled}
use Rattle.session_core.proofs.Ending.{plan_proves, exhausted_proves, budget_tells}
use Rattle.flaw_core.specs.declared.ending.SearchEnd.{SearchEnd}
use Rattle.flaw_core.specs.declared.ending.SearchEnd.TheVariants.{Found, Exhausted, Budget}
use Rattle.solver_core.specs.Solving.{TellsEnd}
use Rattle.europa_run.specs.Laws.{ProvesTrial, ProvesTried, TriedEndsProve}
use Rattle.europa_run.proofs.Printing.{posed_output}
use Rattle.europa_run.proofs.Requests.{only_output}

module _ (old : Database) (sound : IsSound old) (bound steps : ℕ) (few : bound ≤ 512) (new : Database) (body : List ℕ) (outcome : SearchOutcome)
    (searches : Searches old.model bound steps (standing old.history) outcome) where
  found_trial : (visits : ℕ) → TellsEnd steps outcome old (Found visits) new → TellsTrial (Found visits) (taken_in old.model new.history) body → ProvesTrial old new steps body
  found_trial visits ends (state, (least, (plan, (is_plan, valid, shows)))) =
      let right = plan_proves old sound.lawful (standing_settled old.model old.history sound.history) bound steps few new outcome visits state plan searches ends least is_plan in
      record {
        visits = visits;
        few = omega (arith, ends.0);
        state = state;
        least = least;
        plan = plan;
        is_plan = is_plan;
        shows = shows;
        valid = valid;
        agrees_before = right.1;
        agrees_now = right.2;
      }

  end_proves : (ending : SearchEnd) → TellsEnd steps outcome old ending new → TellsTrial ending new body → ProvesTried old bound steps body (end_of ending)
  end_proves (Found visits) ends tells =
      let models = ends.2 in
      let same : new ≡ taken_in old.model new.history = λ i. record { model = models i; history = new.history } in
      (new, found_trial visits ends (subst (λ (d : Database). TellsTrial (Found visits) d body) same tells))
  end_proves (Exhausted visits left_out) ends tells =
      exhausted_proves old sound.lawful (standing_settled old.model old.history sound.history) bound steps few new body outcome visits left_out searches ends tells
  end_proves (Budget visits) ends tells =
      budget_tells old sound.lawful (standing_settled old.model old.history sound.history) bound steps few new body outcome visits searches ends tells

trial_proves : (old : Database) → IsSound old → (bound steps : ℕ) → bound ≤ 512 → (body : List ℕ) (end : RunEnd) → EndOutput bound steps TellsTrial old body end
    → ProvesTried old bound steps body end
trial_proves old sound bound steps few body end (ending, (new, ((outcome, (searches, ends)), tells, is))) =
    subst (λ (e : RunEnd). ProvesTried old bound steps body e) (sym is) (end_proves old sound bound steps few new body outcome searches ending ends tells)

pub tried_proves : IsPosedOnce → PosedIsSound → TriedEndsProve
tried_proves posed_once sound words given number database asks posed out end output =
    let tries : TryOutput number out end = only_output words (Try number) given out end asks output in
    let body = tries.0 in
    let trial = posed_output posed_once (generated_files number) (codes "gen") TrialOutput database body end posed tries.1.0 in
    (body, tries.1.1, trial_proves database (sound (generated_files number) (codes "gen") database posed) 512 database.model.problem.steps (omega arith) body end trial)
