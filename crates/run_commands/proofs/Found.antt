-- What a search found, as it is counted, checked and told.
use Rattle.std.proofs.Common.{◌≡◌, ℕ, Bool, List, ◌++◌, Result, Ok, Err, ◌∙◌, ap, subst, codes}
use Rattle.std.specs.Prelude.{IfOk}
use Rattle.std.specs.declared.alloc.AllocError.{AllocError}
use Rattle.model_core.specs.declared.decision.Decision.{Decision}
use Rattle.model_core.specs.declared.model.Model.{Model}
use Rattle.model_core.specs.State.{State}
use Rattle.plan_check.specs.declared.verdict.Verdict.{Verdict}
use Rattle.plan_check.specs.declared.verdict.Verdict.TheVariants.{Valid, Invalid}
use Rattle.plan_check.specs.Judged.{IsVerdict}
use Rattle.plan_db.specs.Answers.{Held, IsSeen}
use Rattle.plan_defs.specs.declared.plan.Plan.{Plan}
use Rattle.plan_defs.specs.Valid.{IsValid}
use Rattle.plan_defs.specs.StatePlans.{IsStatePlan}
use Rattle.plan_report.specs.declared.counting.Counts.{Counts}
use Rattle.plan_report.specs.Counting.{AreCounts}
use Rattle.plan_report.specs.Verdicts.{IsVerdictText, IsCheckedAs}
use Rattle.db_refusals.specs.Seeing.{Seen, seen_state}
use Rattle.flaw_core.specs.declared.ending.SearchEnd.TheVariants.{Found}
use Rattle.run_commands.specs.Trying.{IsFoundText, TellsState, TellsTrial, found_text}

-- ---- a valid plan

module _ (model : Model) (plan : Plan) (valid : IsValid model plan) where
  -- no clause of it is broken
  valid_text : (verdict : Verdict) (text : List ℕ) → IsVerdict model plan verdict → IsVerdictText model plan verdict text → text ≡ codes "valid"
  valid_text Valid text is says = says
  valid_text (Invalid clause place) text is says = absurd (is.here.broken (valid clause place))

  valid_line : (reply : List ℕ) (is_valid : Bool) → IsCheckedAs model plan reply is_valid → reply ≡ codes "valid\n"
  valid_line reply is_valid checked =
      checked.whole ∙ ap (λ (text : List ℕ). text ++ codes "\n") (valid_text checked.verdict checked.text checked.is_verdict checked.is_text)

  pub plan_told : (visits : ℕ) (counts : Counts) (reply line : List ℕ) (is_valid : Bool) (result : Result (List ℕ) AllocError) → AreCounts plan counts
      → IsCheckedAs model plan reply is_valid → line ≡ reply → IfOk result (λ (text : List ℕ). text ≡ found_text visits counts line)
      → IfOk result (IsFoundText visits plan)
  plan_told visits counts reply line is_valid (Ok text) are checked same is =
      (counts, (are, is ∙ ap (found_text visits counts) (same ∙ valid_line reply is_valid checked)))
  plan_told visits counts reply line is_valid (Err none) are checked same is = tt

-- ---- a state

pub state_told : (visits : ℕ) (model : Model) (decisions : List Decision) (state : State) (plan : Plan) (result : Result (List ℕ) AllocError)
    → IsStatePlan model decisions state plan → IsValid model plan → IfOk result (IsFoundText visits plan)
    → IfOk result (TellsState visits model decisions state)
state_told visits model decisions state plan (Ok text) is valid found = (plan, (is, valid, found))
state_told visits model decisions state plan (Err none) is valid found = tt

-- what is told of what is seen is told of what stands
pub standing_told : (held : Held) (view : Seen) (model : Model) (visits : ℕ) (result : Result (List ℕ) AllocError) → IsSeen held view
    → model ≡ held.database.model → IfOk result (TellsState visits model view.decisions (seen_state view.stored))
    → IfOk result (TellsTrial (Found visits) held.database)
standing_told held view model visits (Ok text) sees same told = (
  seen_state view.stored,
  (
    sees.least,
    subst (λ (l : List Decision). TellsState visits held.database.model l (seen_state view.stored) text) sees.decisions
        (subst (λ (m : Model). TellsState visits m view.decisions (seen_state view.stored) text) same told),
  ),
)
standing_told held view model visits (Err none) sees same told = tt
