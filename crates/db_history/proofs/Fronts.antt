-- Fronts of lists, and of settled ones: what stays of a settled list are its decisions, each admissible after those before it.
use Rattle.std.proofs.Common.{◌≡◌, ℕ, ◌+◌, ◌<◌, ◌≤◌, List, [], ◌∷◌, ◌++◌, length, take, drop, inl, inr, sym, ap, ◌∙◌, subst, arith}
use Rattle.std.proofs.lemmas.List.{append-nil, append_assoc, length-append, take-append-drop}
use Rattle.decision_log.proofs.Lists.{before-push}
use Rattle.decision_log.proofs.Places.{cut_at}
use Rattle.model_core.specs.declared.decision.Decision.{Decision}
use Rattle.model_core.specs.declared.model.Model.{Model}
use Rattle.plan_defs.specs.Refusals.{IsAdmissible}
use Rattle.plan_defs.specs.Settling.{SettlesAfter, IsSettled}
use Rattle.plan_defs.proofs.Settling.{settled_few}
use Rattle.db_history.specs.Advancing.{but_last, EndsAdmissibly}

-- decisions that settle by themselves one after another settle together
pub settles_both : (model : Model) (kept front back middle settled : List Decision)
    → SettlesAfter model kept front middle → SettlesAfter model middle back settled → SettlesAfter model kept (front ++ back) settled
settles_both model kept [] back middle settled same behind = subst (λ list. SettlesAfter model list back settled) same behind
settles_both model kept (decision ∷ front) back middle settled (inl stays) behind =
    inl (stays.0, settles_both model (kept ++ decision ∷ []) front back middle settled stays.1 behind)
settles_both model kept (decision ∷ front) back middle settled (inr goes) behind =
    inr (goes.0, settles_both model kept front back middle settled goes.1 behind)

-- where as much stays as there was, the front stays, and the rest is settled after it
pub front_stays : (model : Model) (kept front back settled : List Decision) → SettlesAfter model kept (front ++ back) settled
    → length kept + length (front ++ back) ≤ length settled
    → SettlesAfter model kept front (kept ++ front) × SettlesAfter model (kept ++ front) back settled
front_stays model kept [] back settled settles long =
    (append-nil kept, subst (λ list. SettlesAfter model list back settled) (sym (append-nil kept)) settles)
front_stays model kept (decision ∷ front) back settled (inl stays) long =
    let rest = front_stays model (kept ++ decision ∷ []) front back settled stays.1 (omega (arith, long, length-append kept (decision ∷ []))) in
    let same = append_assoc kept (decision ∷ []) front in
    (inl (stays.0, subst (SettlesAfter model (kept ++ decision ∷ []) front) same rest.0), subst (λ list. SettlesAfter model list back settled) same rest.1)
front_stays model kept (decision ∷ front) back settled (inr goes) long =
    absurd (omega (arith, long, settled_few model kept (front ++ back) settled goes.1))

module _ (model : Model) (decisions : List Decision) (settled : IsSettled model decisions) where
  -- a front of a settled list is settled
  pub front_settled : (front back : List Decision) → decisions ≡ front ++ back → IsSettled model front
  front_settled front back parts =
      (front_stays model [] front back decisions (subst (λ list. SettlesAfter model [] list decisions) parts settled) (omega (arith, ap length parts))).0

  -- and each decision of it is admissible after those before it
  pub next_admissible : (front : List Decision) (decision : Decision) (back : List Decision) → decisions ≡ front ++ decision ∷ back → IsAdmissible model front decision
  next_admissible front decision back parts =
      admits (front_stays model [] front (decision ∷ back) decisions (subst (λ list. SettlesAfter model [] list decisions) parts settled) (omega (arith, ap length parts))).1
    where
      admits : SettlesAfter model front (decision ∷ back) decisions → IsAdmissible model front decision
      admits (inl stays) = stays.0
      admits (inr goes) = absurd (omega (arith, settled_few model front back decisions goes.1, ap length parts, length-append front (decision ∷ back)))

  module _ (number : ℕ) (within : number < length decisions) where
    next_is : take (number + 1) decisions ≡ take number decisions ++ (cut_at decisions number within).here ∷ []
    next_is = (cut_at decisions number within).front

    pub whole : decisions ≡ take number decisions ++ (cut_at decisions number within).here ∷ drop (number + 1) decisions
    whole = sym (take-append-drop number decisions) ∙ ap (λ (list : List Decision). take number decisions ++ list) (cut_at decisions number within).back

    -- so one goes on from a front by the next decision
    pub next_before : but_last (take (number + 1) decisions) ≡ take number decisions
    next_before = ap (λ (list : List Decision). but_last list) next_is ∙ before-push (take number decisions) ((cut_at decisions number within).here)

    pub next_settled : IsSettled model (take (number + 1) decisions)
    next_settled = front_settled (take (number + 1) decisions) (drop (number + 1) decisions) (
        whole ∙ (sym (append_assoc (take number decisions) ((cut_at decisions number within).here ∷ []) (drop (number + 1) decisions))
        ∙ ap (λ (list : List Decision). list ++ drop (number + 1) decisions) (sym next_is)))

    pub next_ends : EndsAdmissibly model (take (number + 1) decisions)
    next_ends = (
      (cut_at decisions number within).here,
      next_is ∙ ap (λ (list : List Decision). list ++ (cut_at decisions number within).here ∷ []) (sym next_before),
      subst (λ list. IsAdmissible model list ((cut_at decisions number within).here)) (sym next_before)
          (next_admissible (take number decisions) ((cut_at decisions number within).here) (drop (number + 1) decisions) whole),
    )

-- a list with an admissible decision at its end ends admissibly
pub pushed_ends : (model : Model) (decisions : List Decision) (decision : Decision) → IsAdmissible model decisions decision → EndsAdmissibly model (decisions ++ decision ∷ [])
pushed_ends model decisions decision admissible =
    let before = before-push decisions decision in (
      decision,
      ap (λ (list : List Decision). list ++ decision ∷ []) (sym before),
      subst (λ list. IsAdmissible model list decision) (sym before) admissible,
    )
