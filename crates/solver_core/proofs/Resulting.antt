-- What a search answers, and what that proves.
use Rattle.std.proofs.Common.{◌≡◌, ℕ, ◌≤◌, ◌⊎◌, false, Bool, List, Option, Some, None, Result, Ok, Err, MatchResult, refl, sym, subst}
use Rattle.std.specs.Prelude.{Contains}
use Rattle.std.specs.declared.alloc.AllocError.{AllocError}
use Rattle.model_core.specs.declared.decision.Decision.{Decision}
use Rattle.model_core.specs.declared.model.Model.{Model}
use Rattle.model_core.specs.History.{standing}
use Rattle.model_core.specs.Lawful.{IsLawful}
use Rattle.model_core.specs.State.{State}
use Rattle.plan_defs.specs.declared.plan.Plan.{Plan}
use Rattle.plan_defs.specs.Refusals.{IsAdmissible}
use Rattle.plan_defs.specs.Settling.{IsSettled}
use Rattle.plan_defs.specs.Flaws.{HasFlaw}
use Rattle.law_search.specs.SwapLaws.{count_of_tokens}
use Rattle.law_search.specs.Search.{Finds, Fails, Stops}
use Rattle.law_search.specs.SearchLaws.{IsPlanFor, AgreesWithSome}
use Rattle.flaw_core.specs.declared.flaw.Flaw.{Flaw}
use Rattle.flaw_core.specs.Rules.{IsLeastFor, IsCoveredBy}
use Rattle.flaw_core.proofs.Proving.{found_by_rule, none_by_rule}
use Rattle.plan_db.specs.Database.{HasLeast}
use Rattle.plan_db.specs.Answers.{Held}
use Rattle.flaw_core.specs.declared.ending.SearchEnd.{SearchEnd}
use Rattle.flaw_core.specs.declared.ending.SearchEnd.TheVariants.{Found, Exhausted, Budget}
use Rattle.solver_core.specs.declared.ending.SolveFault.{SolveFault}
use Rattle.solver_core.specs.declared.ending.SolveFault.TheVariants.{Behind, InInconsistent, Memory}
use Rattle.solver_core.specs.Solving.{Solves, ProvesPlans}
use Rattle.solver_core.specs.Underway.{Task, IsAbove, HasEnded}
use Rattle.solver_core.specs.Ending.{EndsAs, IsFoundEnd, KeepsFound, RestsAs}

module _ (First : Model → List Decision → State → Option Flaw → Type 0)
    (Choices : Model → List Decision → State → ℕ → Flaw → List Decision → Type 0) where
  pub ended_above : (task : Task) (held : Held) (end : Result SearchEnd AllocError) → MatchResult end (λ e. EndsAs First Choices task e held) (λ _. IsAbove task held) → IsAbove task held
  ended_above task held (Ok (Found visits)) ends = ends.1.above
  ended_above task held (Ok (Exhausted visits left_out)) ends = ends.above
  ended_above task held (Ok (Budget visits)) ends = ends.1.0.above
  ended_above task held (Err fault) ends = ends

  -- the outcome that is told
  rests_found : (task : Task) (held : Held) (visits : ℕ) (out : Bool) → HasEnded First Choices task (Finds (standing held.database.history)) visits out held
      → RestsAs First Choices task (Ok (Found visits)) held
  rests_found task held visits out ended = (
    ended.above.ready,
    (
      record { ending = Finds (standing held.database.history); left = ended.units; left_out = out },
      ended.whole,
      (ended.spent, refl, ended.above.since.model, (ended.above.since.count, ended.above.since.more)),
    ),
  )

  pub rests : (task : Task) (held new : Held) (end : Result SearchEnd AllocError) (result : Result SearchEnd SolveFault)
      → MatchResult end (λ e. EndsAs First Choices task e held) (λ _. IsAbove task held) → KeepsFound task end held new
      → MatchResult end (λ e. result ≡ Ok e) (λ _. result ≡ Err Memory) → RestsAs First Choices task result new
  rests task held new (Ok (Found visits)) result ends keeps is =
      subst (λ (r : Result SearchEnd SolveFault). RestsAs First Choices task r new) (sym is)
      (subst (λ (h : Held). RestsAs First Choices task (Ok (Found visits)) h) (sym keeps) (rests_found task held visits ends.0 ends.1))
  rests task held new (Ok (Exhausted visits left_out)) result ends keeps is =
      subst (λ (r : Result SearchEnd SolveFault). RestsAs First Choices task r new) (sym is) (
        keeps.1,
        (record { ending = Fails; left = ends.units; left_out = left_out }, ends.whole, (ends.spent, refl, refl, keeps.0)),
      )
  rests task held new (Ok (Budget visits)) result ends keeps is =
      subst (λ (r : Result SearchEnd SolveFault). RestsAs First Choices task r new) (sym is) (
        keeps.1,
        (record { ending = Stops; left = ends.1.0.units; left_out = ends.0 }, ends.1.0.whole, (ends.1.0.spent, refl, ends.1.1, keeps.0)),
      )
  rests task held new (Err fault) result ends keeps is = subst (λ (r : Result SearchEnd SolveFault). RestsAs First Choices task r new) (sym is) (keeps.1, keeps.0)

  -- ---- what is answered

  pub solves : (tokens budget : ℕ) (old new : Held) (result : Result SearchEnd SolveFault) → old.behind ≡ false → ((state : State) × HasLeast old.database state)
      → RestsAs First Choices (record { database = old.database; bound = tokens; budget = budget }) result new → Solves First Choices tokens budget old result new
  solves tokens budget old new (Ok end) ready some is = (record { before = ready; after = is.0 }, some, is.1)
  solves tokens budget old new (Err Memory) ready some is = (record { before = ready; after = is.0 }, some, is.1)
  solves tokens budget old new (Err Behind) ready some is = absurd is
  solves tokens budget old new (Err InInconsistent) ready some is = absurd is

  -- ---- what that proves

  module _ (old : Held) (lawful : IsLawful old.database.model) (settled : IsSettled old.database.model (standing old.database.history)) (bound : ℕ) (few : bound ≤ 512)
      (clears : (decisions : List Decision) (state : State) → IsLeastFor old.database.model decisions state → First old.database.model decisions state None → HasFlaw old.database.model decisions state → ⊥)
      (admits : (decisions : List Decision) (state : State) (flaw : Flaw) (choices : List Decision) (choice : Decision) → IsLeastFor old.database.model decisions state
      → First old.database.model decisions state (Some flaw) → Choices old.database.model decisions state bound flaw choices → Contains choices choice
      → IsAdmissible old.database.model decisions choice)
      (covers : (decisions : List Decision) (state : State) (flaw : Flaw) (choices : List Decision) (plan : Plan) → IsLeastFor old.database.model decisions state
      → First old.database.model decisions state (Some flaw) → Choices old.database.model decisions state bound flaw choices → IsPlanFor old.database.model decisions plan
      → IsCoveredBy old.database.model decisions bound flaw plan → AgreesWithSome old.database.model decisions choices plan) where
    pub proves_plans : (budget : ℕ) (new : Held) (result : Result SearchEnd SolveFault) → RestsAs First Choices (record { database = old.database; bound = bound; budget = budget }) result new
        → ProvesPlans bound old.database result new.database
    proves_plans budget new (Ok (Found visits)) (ready, (outcome, whole, (spent, ends, model, more))) =
        found_by_rule First Choices old.database.model lawful bound few clears admits covers budget budget (standing old.database.history) (standing new.database.history) outcome settled whole ends
    proves_plans budget new (Ok (Exhausted visits left_out)) (ready, (outcome, whole, (spent, ends, out, same))) = λ plan fits covered.
        none_by_rule First Choices old.database.model lawful bound few clears admits covers budget budget (standing old.database.history) outcome plan settled whole ends fits
        (subst (λ (b : Bool). (count_of_tokens plan ≤ bound) ⊎ (b ≡ false)) (sym out) covered)
    proves_plans budget new (Ok (Budget visits)) is = tt
    proves_plans budget new (Err fault) is = tt

-- ---- what is kept

pub kept_found : (task : Task) (end : Result SearchEnd AllocError) (held : Held) → IsFoundEnd end → KeepsFound task end held held
kept_found task (Ok (Found visits)) held found = refl
kept_found task (Ok (Exhausted visits left_out)) held found = absurd found
kept_found task (Ok (Budget visits)) held found = absurd found
kept_found task (Err fault) held found = absurd found

pub kept_none : (task : Task) (end : Result SearchEnd AllocError) (held new : Held) → (IsFoundEnd end → ⊥) → new.database ≡ task.database → new.behind ≡ false → KeepsFound task end held new
kept_none task (Ok (Found visits)) held new none same ready = absurd (none tt)
kept_none task (Ok (Exhausted visits left_out)) held new none same ready = (same, ready)
kept_none task (Ok (Budget visits)) held new none same ready = (same, ready)
kept_none task (Err fault) held new none same ready = (same, ready)
