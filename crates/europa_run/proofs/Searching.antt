-- What is told of a search is one.
use Rattle.std.proofs.Common.{◌≡◌, ℕ, ◌≤◌, List, ◌++◌, sym, ap, ◌∙◌, subst, codes, arith}
use Rattle.std.specs.Fmt.{decimal}
use Rattle.model_core.specs.declared.decision.Decision.{Decision}
use Rattle.model_core.specs.declared.model.Model.{Model}
use Rattle.model_core.specs.History.{standing}
use Rattle.model_core.specs.State.{State}
use Rattle.plan_db.specs.Database.{Database, IsSound}
use Rattle.plan_defs.specs.declared.plan.Plan.{Plan}
use Rattle.plan_defs.proofs.Settling.{least_same}
use Rattle.law_search.specs.Search.{SearchOutcome}
use Rattle.law_search.proofs.Once.{visits_once}
use Rattle.law_states.specs.Soundness.{StatesHaveOnePlan}
use Rattle.plan_report.specs.declared.counting.Counts.{Counts}
use Rattle.plan_report.specs.Counting.{AreCounts}
use Rattle.run_load.specs.Laws.{IsPosedOnce, PosedIsSound}
use Rattle.run_commands.specs.Searching.{SearchesTo, EndOutput, SearchOutput, end_of}
use Rattle.run_commands.specs.Trying.{IsFoundText, TellsState, TellsTrial, TrialOutput, TryOutput, found_text, generated_files}
use Rattle.run_commands.specs.Searching.{TellsSearch}
use Rattle.session_core.proofs.Answering.{standing_settled}
use Rattle.session_core.proofs.OneSearch.{end_one, end_told_one}
use Rattle.flaw_core.specs.declared.ending.SearchEnd.{SearchEnd}
use Rattle.flaw_core.specs.declared.ending.SearchEnd.TheVariants.{Found, Exhausted, Budget}
use Rattle.solver_core.specs.Solving.{TellsEnd}
use Rattle.europa_run.proofs.Printing.{IsOne, posed_one}

-- ---- searches

-- of what a search comes to one text is told
abbrev TellsOnce : (SearchEnd → Database → List ℕ → Type 0) → Type 0
TellsOnce Tells = (ending : SearchEnd) (new : Database) (one other : List ℕ) → Tells ending new one → Tells ending new other → one ≡ other

module _ (bound steps : ℕ) (few : bound ≤ 512) (old : Database) (sound : IsSound old) where
  search_one : (ending other : SearchEnd) (new next : Database) → SearchesTo bound steps old ending new → SearchesTo bound steps old other next → (ending ≡ other) × (new ≡ next)
  search_one ending other new next (outcome, (searches, ends)) (outcome', (searches', ends')) =
      let settled = standing_settled old.model old.history sound.history in
      let same = visits_once old.model sound.lawful bound few steps steps (standing old.history) outcome' outcome settled searches' searches in
      end_one old steps outcome ending other new next ends (subst (λ (o : SearchOutcome). TellsEnd steps o old other next) same ends')

  end_output_one : (Tells : SearchEnd → Database → List ℕ → Type 0) → TellsOnce Tells → IsOne (EndOutput bound steps Tells old)
  end_output_one Tells once out other end last (ending, (new, (searches, tells, ends))) (ending', (new', (searches', tells', ends'))) =
      let both = search_one ending' ending new' new searches' searches in
      let told = subst (λ (e : SearchEnd). Tells e new other) both.0 (subst (λ (d : Database). Tells ending' d other) both.1 tells') in
      (once ending new other out told tells, ends' ∙ (ap end_of both.0 ∙ sym ends))

pub search_output_one : StatesHaveOnePlan → (bound steps : ℕ) → bound ≤ 512 → (old : Database) → IsSound old → IsOne (SearchOutput bound steps old)
search_output_one one_plan bound steps few old sound = end_output_one bound steps few old sound TellsSearch (end_told_one one_plan)

-- ---- trials

counts_one : (plan : Plan) (one other : Counts) → AreCounts plan one → AreCounts plan other → one ≡ other
counts_one plan one other p q =
    let active = p.0 ∙ sym q.0 in
    let merged = p.1 ∙ sym q.1 in
    λ i. record { active = active i; merged = merged i }

found_text_one : (visits : ℕ) (plan : Plan) (one other : List ℕ) → IsFoundText visits plan one → IsFoundText visits plan other → one ≡ other
found_text_one visits plan one other (counts, (are, is)) (counts', (are', is')) =
    is ∙ (ap (λ (c : Counts). found_text visits c (codes "valid\n")) (counts_one plan counts counts' are are') ∙ sym is')

state_one : StatesHaveOnePlan → (visits : ℕ) (model : Model) (decisions : List Decision) (state : State) (one other : List ℕ)
    → TellsState visits model decisions state one → TellsState visits model decisions state other → one ≡ other
state_one one_plan visits model decisions state one other (plan, (is_plan, valid, tells)) (plan', (is_plan', valid', tells')) =
    found_text_one visits plan one other tells
    (subst (λ (p : Plan). IsFoundText visits p other) (one_plan model decisions state plan' plan is_plan' is_plan) tells')

trial_one : StatesHaveOnePlan → TellsOnce TellsTrial
trial_one one_plan (Found visits) new one other (state, (least, tells)) (state', (least', tells')) =
    let decisions = standing new.history in
    let states = least_same new.model decisions state' state least' least in
    state_one one_plan visits new.model decisions state one other tells (subst (λ (s : State). TellsState visits new.model decisions s other) states tells')
trial_one one_plan (Exhausted visits left_out) new one other p q = p ∙ sym q
trial_one one_plan (Budget visits) new one other p q = p ∙ sym q

pub try_one : StatesHaveOnePlan → IsPosedOnce → PosedIsSound → (number : ℕ) → IsOne (TryOutput number)
try_one one_plan posed_once sound number out other end last p q =
    let bodies = posed_one posed_once (generated_files number) (codes "gen") TrialOutput
    (λ database posed. end_output_one 512 database.model.problem.steps (omega arith) database (sound (generated_files number) (codes "gen") database posed) TellsTrial (trial_one one_plan))
    p.0 q.0 end last p.1.0 q.1.0 in
    (q.1.1 ∙ (ap (λ (body : List ℕ). codes "try " ++ (decimal number ++ (codes "\n" ++ body))) bodies.0 ∙ sym p.1.1), bodies.1)
