-- What a search leaves and is answered.
use Rattle.std.proofs.Common.{◌≡◌, ℕ, List, Result, Ok, Err, inl, inr, sym, ap, subst}
use Rattle.std.specs.Prelude.{IfOk, MatchResult}
use Rattle.std.specs.declared.alloc.AllocError.{AllocError}
use Rattle.model_core.specs.declared.model.Model.{Model}
use Rattle.model_core.specs.History.{standing}
use Rattle.model_core.specs.State.{State}
use Rattle.flaw_core.specs.Rules.{IsFirstAt, AreChoicesAt}
use Rattle.plan_db.specs.Answers.{Held}
use Rattle.plan_db.specs.Database.{Database, HasLeast}
use Rattle.plan_db.specs.Rewinding.{IsTakenSince}
use Rattle.plan_db.specs.declared.fault.Outcome.TheVariants.{Inconsistent}
use Rattle.law_search.specs.Search.{SearchOutcome, Searches}
use Rattle.law_search.specs.SearchLaws.{IsFoundList}
use Rattle.flaw_core.specs.declared.ending.SearchEnd.{SearchEnd}
use Rattle.flaw_core.specs.declared.ending.SearchEnd.TheVariants.{Found, Exhausted, Budget}
use Rattle.solver_core.specs.declared.ending.SolveFault.{SolveFault}
use Rattle.solver_core.specs.declared.ending.SolveFault.TheVariants as solve
use Rattle.solver_core.specs.Solving.{TellsEnd, Solves, ProvesPlans}
use Rattle.session_core.specs.Reasons.{outcome_text}
use Rattle.session_replies.specs.Texts.{TellsSearch, IsFlawlessEnd}
use Rattle.session_core.specs.Replies.{RepliesSolve}
use Rattle.session_core.specs.Steps.{Answers}

-- ---- what a search leaves

pub ended_since : (steps : ℕ) (outcome : SearchOutcome) (old new : Database) (end : SearchEnd) → TellsEnd steps outcome old end new → IsTakenSince old new
ended_since steps outcome old new (Found visits) tells = record { model = tells.2; count = tells.3.0; more = tells.3.1 }
ended_since steps outcome old new (Exhausted visits left_out) tells =
    record { model = ap (λ (d : Database). d.model) tells.3; count = 0; more = ap (λ (d : Database). d.history) tells.3 }
ended_since steps outcome old new (Budget visits) tells =
    record { model = ap (λ (d : Database). d.model) tells.3; count = 0; more = ap (λ (d : Database). d.history) tells.3 }

pub ended_flawless : (bound steps : ℕ) (outcome : SearchOutcome) (old new : Database) (end : SearchEnd) → TellsEnd steps outcome old end new
    → ProvesPlans bound old (Ok end) new → IsFlawlessEnd end new
ended_flawless bound steps outcome old new (Found visits) tells proves =
    (standing old.history, subst (λ (m : Model). IsFoundList m (standing old.history) (standing new.history)) (sym tells.2) proves)
ended_flawless bound steps outcome old new (Exhausted visits left_out) tells proves = tt
ended_flawless bound steps outcome old new (Budget visits) tells proves = tt

-- ---- what is answered

module _ (steps tokens : ℕ) where
  pub search_answered : (old between new : Database) (end : SearchEnd) (outcome : SearchOutcome) (result : Result (List ℕ) AllocError)
      → ((state : State) × HasLeast old state) → Searches old.model tokens steps (standing old.history) outcome → TellsEnd steps outcome old end between
      → MatchResult result (λ reply. TellsSearch end between reply × (new ≡ between)) (λ _. new ≡ old)
      → Answers (RepliesSolve steps tokens old) old result new
  search_answered old between new end outcome (Ok reply) some searches tells (told, same) =
      inr (
        some,
        (
          outcome,
          end,
          (
            searches,
            subst (λ (d : Database). TellsEnd steps outcome old end d) (sym same) tells,
            subst (λ (d : Database). TellsSearch end d reply) (sym same) told,
          ),
        ),
      )
  search_answered old between new end outcome (Err none) some searches tells same = inl same

  pub not_searched : (old new : Held) (why : SolveFault) (result : Result (List ℕ) AllocError)
      → Solves IsFirstAt AreChoicesAt tokens steps old (Err why) new
      → IfOk result (λ reply. (why ≡ solve.InInconsistent) × (reply ≡ outcome_text Inconsistent))
      → Answers (RepliesSolve steps tokens old.database) old.database result new.database
  not_searched old new solve.InInconsistent (Ok reply) solves says =
      inl (solves.1, says.1, ap (λ (held : Held). held.database) solves.0.same)
  not_searched old new solve.InInconsistent (Err none) solves says = inl (ap (λ (held : Held). held.database) solves.0.same)
  not_searched old new solve.Behind (Ok reply) solves says = absurd (other says.0)
    where
      other : solve.Behind ≡ solve.InInconsistent → ⊥
      other same = cc
  not_searched old new solve.Behind (Err none) solves says = inl (ap (λ (held : Held). held.database) solves.same)
  not_searched old new solve.Memory (Ok reply) solves says = absurd (other says.0)
    where
      other : solve.Memory ≡ solve.InInconsistent → ⊥
      other same = cc
  not_searched old new solve.Memory (Err none) solves says = inl solves.2
