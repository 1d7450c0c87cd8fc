-- A step that is asked for is answered in one way.
use Rattle.std.proofs.Common.{◌≡◌, Result, Ok, Err, refl, sym, ap, ◌∙◌, subst, inl, inr}
use Rattle.model_core.specs.declared.decision.Decision.{Decision}
use Rattle.model_core.specs.History.{standing, accepted}
use Rattle.model_core.specs.Lawful.{IsLawful}
use Rattle.model_core.specs.State.{State}
use Rattle.plan_db.specs.Database.{Database, taken_in, HasLeast, HasCollapsed, OutcomeIs, Applies}
use Rattle.plan_db.specs.declared.fault.Outcome.{Outcome}
use Rattle.plan_db.specs.declared.fault.Outcome.TheVariants as outcome
use Rattle.plan_defs.specs.Refusals.{IsFirstRefusal, IsAdmissible}
use Rattle.model_core.specs.declared.refusal.Refusal.{Refusal}
use Rattle.model_core.specs.declared.refusal.Refusal.TheVariants as refusals
use Rattle.plan_defs.proofs.Reasons.{refusal_same}
use Rattle.plan_defs.proofs.Settling.{least_same, least_not_collapsed}
use Rattle.script_lang.specs.declared.command.Command.{Command}
use Rattle.session_core.specs.declared.reason.RefusalReason.{RefusalReason}
use Rattle.session_core.specs.declared.reason.RefusalReason.TheVariants as reason
use Rattle.session_core.specs.Replies.{RefusesAsked, AsksInVain, TakesAsked}
use Rattle.script_lang.specs.Naming.{AsksDecision}
use Rattle.script_lang.proofs.Asked.{asks_one}

-- a database is left with one outcome
pub outcome_one : (database : Database) (one other : Outcome) → OutcomeIs database one → OutcomeIs database other → one ≡ other
outcome_one database outcome.Consistent outcome.Consistent p q = refl
outcome_one database outcome.Consistent outcome.Inconsistent p q = absurd (q p.0 p.1.closed)
outcome_one database outcome.Inconsistent outcome.Consistent p q = absurd (p q.0 q.1.closed)
outcome_one database outcome.Inconsistent outcome.Inconsistent p q = refl

-- how a decision that is asked for is answered
data Verdict : Type 0 where
  Taken : Outcome → Verdict
  Collapsed : Verdict
  Vain : Verdict
  Refused : Refusal → Verdict

abbrev step_of : Verdict → Result Outcome RefusalReason
step_of (Taken found) = Ok found
step_of Collapsed = Err reason.Inconsistent
step_of Vain = Err (reason.Decision refusals.Unknown)
step_of (Refused why) = Err (reason.Decision why)

module _ (old : Database) (command : Command) where
  abbrev IsVerdict : Verdict → Database → Type 0
  IsVerdict (Taken found) new = (decision : Decision) × (AsksDecision old.model command decision × Applies old decision (Ok found) new)
  IsVerdict Collapsed new = HasCollapsed old × (new ≡ old)
  IsVerdict Vain new = AsksInVain old command × (new ≡ old)
  IsVerdict (Refused why) new = RefusesAsked old command why × (new ≡ old)

  -- each answer is one of these
  record Judged (step : Result Outcome RefusalReason) (new : Database) : Type 0 where
    verdict : Verdict
    is : IsVerdict verdict new
    step_is : step ≡ step_of verdict

  judged : (step : Result Outcome RefusalReason) (new : Database) → TakesAsked old command step new → Judged step new
  judged (Ok found) new is = record { verdict = Taken found; is = is; step_is = refl }
  judged (Err reason.Inconsistent) new is = record { verdict = Collapsed; is = is; step_is = refl }
  judged (Err (reason.Decision why)) new (inl (vain, unknown), same) =
      record { verdict = Vain; is = (vain, same); step_is = ap (λ w. step_of (Refused w)) unknown }
  judged (Err (reason.Decision why)) new (inr refused, same) = record { verdict = Refused why; is = (refused, same); step_is = refl }
  judged (Err why) new is = absurd is

  module _ (lawful : IsLawful old.model) where
    -- what is refused isn't admissible
    refused_not : (why : Refusal) (decision : Decision) → AsksDecision old.model command decision → IsAdmissible old.model (standing old.history) decision → RefusesAsked old command why → ⊥
    refused_not why decision asks admissible (other, (asks', refuses)) =
        let same = asks_one old.model command other decision lawful asks' asks in
        let states = least_same old.model (standing old.history) refuses.state admissible.state refuses.least admissible.least in
        let first = subst (λ s. IsFirstRefusal old.model (standing old.history) s other why) states refuses.refusal in
        admissible.free why (subst (λ d. IsFirstRefusal old.model (standing old.history) admissible.state d why) same first).hinders

    reasons_one : (one other : Refusal) → RefusesAsked old command one → RefusesAsked old command other → one ≡ other
    reasons_one one other (decision, (asks, refuses)) (decision', (asks', refuses')) =
        let same = asks_one old.model command decision' decision lawful asks' asks in
        let states = least_same old.model (standing old.history) refuses'.state refuses.state refuses'.least refuses.least in
        let first = subst (λ s. IsFirstRefusal old.model (standing old.history) s decision' other) states refuses'.refusal in
        refusal_same old.model (standing old.history) refuses.state decision one other refuses.refusal
        (subst (λ d. IsFirstRefusal old.model (standing old.history) refuses.state d other) same first)

    taken_one : (one other : Outcome) (new next : Database) → IsVerdict (Taken one) new → IsVerdict (Taken other) next → (one ≡ other) × (new ≡ next)
    taken_one one other new next (decision, (asks, applies)) (decision', (asks', applies')) =
        let same = asks_one old.model command decision decision' lawful asks asks' in
        let news : new ≡ next = applies.1 ∙ (ap (λ d. taken_in old.model (accepted old.history d)) same ∙ sym applies'.1) in
        (outcome_one next one other (subst (λ d. OutcomeIs d one) news applies.2) applies'.2, news)

    -- of two verdicts of different sorts
    collapsed_not : (state : State) → HasLeast old state → HasCollapsed old → ⊥
    collapsed_not state least collapsed = least_not_collapsed old.model (standing old.history) state least collapsed

    verdicts_one : (one other : Verdict) (new next : Database) → IsVerdict one new → IsVerdict other next → (step_of one ≡ step_of other) × (new ≡ next)
    verdicts_one (Taken one) (Taken other) new next p q = let both = taken_one one other new next p q in (ap (λ found. step_of (Taken found)) both.0, both.1)
    verdicts_one (Taken one) Collapsed new next p q = absurd (collapsed_not p.1.1.0.state p.1.1.0.least q.0)
    verdicts_one (Taken one) Vain new next p q = absurd (q.0.1 p.0 p.1.0)
    verdicts_one (Taken one) (Refused why) new next p q = absurd (refused_not why p.0 p.1.0 p.1.1.0 q.0)
    verdicts_one Collapsed (Taken other) new next p q = absurd (collapsed_not q.1.1.0.state q.1.1.0.least p.0)
    verdicts_one Collapsed Collapsed new next p q = (refl, p.1 ∙ sym q.1)
    verdicts_one Collapsed Vain new next p q = absurd (collapsed_not q.0.0.0 q.0.0.1 p.0)
    verdicts_one Collapsed (Refused why) new next p q = absurd (collapsed_not q.0.1.1.state q.0.1.1.least p.0)
    verdicts_one Vain (Taken other) new next p q = absurd (p.0.1 q.0 q.1.0)
    verdicts_one Vain Collapsed new next p q = absurd (collapsed_not p.0.0.0 p.0.0.1 q.0)
    verdicts_one Vain Vain new next p q = (refl, p.1 ∙ sym q.1)
    verdicts_one Vain (Refused why) new next p q = absurd (p.0.1 q.0.0 q.0.1.0)
    verdicts_one (Refused why) (Taken other) new next p q = absurd (refused_not why q.0 q.1.0 q.1.1.0 p.0)
    verdicts_one (Refused why) Collapsed new next p q = absurd (collapsed_not p.0.1.1.state p.0.1.1.least q.0)
    verdicts_one (Refused why) Vain new next p q = absurd (q.0.1 p.0.0 p.0.1.0)
    verdicts_one (Refused why) (Refused how) new next p q = (ap (λ w. step_of (Refused w)) (reasons_one why how p.0 q.0), p.1 ∙ sym q.1)

    pub taking_one : (one other : Result Outcome RefusalReason) (new next : Database) → TakesAsked old command one new → TakesAsked old command other next → (one ≡ other) × (new ≡ next)
    taking_one one other new next p q =
        let first = judged one new p in
        let second = judged other next q in
        let both = verdicts_one first.verdict second.verdict new next first.is second.is in
        (first.step_is ∙ (both.0 ∙ sym second.step_is), both.1)
