-- Laws of least states and settled lists.
use Rattle.std.proofs.Common.{◌≡◌, ◌+◌, ◌≤◌, List, [], ◌∷◌, ◌++◌, length, ◌⊎◌, ⊎_elim, inl, inr, refl, sym, ap, ◌∙◌, subst, arith}
use Rattle.std.specs.Prelude.{Contains}
use Rattle.std.proofs.lemmas.List.{append-nil, append_assoc, length-append}
use Rattle.model_core.specs.declared.decision.Decision.{Decision}
use Rattle.model_core.specs.declared.model.Model.{Model}
use Rattle.model_core.specs.History.{History}
use Rattle.model_core.specs.State.{State}
use Rattle.plan_defs.specs.Closure.{IsLeast, IsCollapsed}
use Rattle.plan_defs.specs.History.{Accepts, TakesOut, IsHistory}
use Rattle.plan_defs.specs.Refusals.{IsAdmissible}
use Rattle.plan_defs.specs.Settling.{SettlesAfter, Settles, IsSettled}
use Rattle.eu_name.proofs.Ordered.{contains_head, contains_cases, contains_none}
use Rattle.plan_defs.proofs.States.{IsBelow-antisym}

-- decisions leave one least state at most
pub least_same : (model : Model) (decisions : List Decision) (one other : State) → IsLeast model decisions one → IsLeast model decisions other → one ≡ other
least_same model decisions one other p q =
    IsBelow-antisym model one other p.closed.consistent.is_state q.closed.consistent.is_state (p.below other q.closed) (q.below one p.closed)

-- a list with a least state doesn't collapse
pub least_not_collapsed : (model : Model) (decisions : List Decision) (state : State) → IsLeast model decisions state → IsCollapsed model decisions → ⊥
least_not_collapsed model decisions state least collapsed = collapsed state least.closed

-- a decision that is admissible after what is left stays too
pub SettlesAfter-push : (model : Model) (kept decisions settled : List Decision) (decision : Decision)
    → SettlesAfter model kept decisions settled → IsAdmissible model settled decision
    → SettlesAfter model kept (decisions ++ decision ∷ []) (settled ++ decision ∷ [])
SettlesAfter-push model kept [] settled decision same admissible =
    inl (subst (λ list. IsAdmissible model list decision) same admissible, ap (λ list. list ++ decision ∷ []) same)
SettlesAfter-push model kept (first ∷ decisions) settled decision (inl stays) admissible =
    inl (stays.0, SettlesAfter-push model (kept ++ first ∷ []) decisions settled decision stays.1 admissible)
SettlesAfter-push model kept (first ∷ decisions) settled decision (inr goes) admissible =
    inr (goes.0, SettlesAfter-push model kept decisions settled decision goes.1 admissible)

-- a settled list with an admissible decision at its end is settled
pub IsSettled-push : (model : Model) (decisions : List Decision) (decision : Decision) → IsSettled model decisions → IsAdmissible model decisions decision → IsSettled model (decisions ++ decision ∷ [])
IsSettled-push model decisions decision settled admissible = SettlesAfter-push model [] decisions decisions decision settled admissible

-- what is left begins with what was kept, and is what is left of itself
pub settled_again : (model : Model) (kept decisions settled : List Decision) → SettlesAfter model kept decisions settled
    → (rest : List Decision) × ((settled ≡ kept ++ rest) × SettlesAfter model kept rest settled)
settled_again model kept [] settled same = ([], (same ∙ sym (append-nil kept), same))
settled_again model kept (decision ∷ decisions) settled (inl stays) =
    let later = settled_again model (kept ++ decision ∷ []) decisions settled stays.1 in
    (decision ∷ later.0, (later.1.0 ∙ append_assoc kept (decision ∷ []) later.0, inl (stays.0, later.1.1)))
settled_again model kept (decision ∷ decisions) settled (inr goes) = settled_again model kept decisions settled goes.1

pub Settles-idempotent : (model : Model) (decisions settled : List Decision) → Settles model decisions settled → IsSettled model settled
Settles-idempotent model decisions settled p =
    let again = settled_again model [] decisions settled p in
    subst (λ list. SettlesAfter model [] list settled) (sym again.1.0) again.1.1

-- no more is left than there was
pub settled_few : (model : Model) (kept decisions settled : List Decision) → SettlesAfter model kept decisions settled → length settled ≤ length kept + length decisions
settled_few model kept [] settled same = omega (arith, ap length same)
settled_few model kept (decision ∷ decisions) settled (inl stays) = omega (arith, settled_few model (kept ++ decision ∷ []) decisions settled stays.1, length-append kept (decision ∷ []))
settled_few model kept (decision ∷ decisions) settled (inr goes) = omega (arith, settled_few model kept decisions settled goes.1)

-- where all is left, each decision was admissible after those before it
all_left : (model : Model) (kept front : List Decision) (decision : Decision) (back settled : List Decision)
    → settled ≡ kept ++ (front ++ decision ∷ back) → SettlesAfter model kept (front ++ decision ∷ back) settled → IsAdmissible model (kept ++ front) decision
all_left model kept [] decision back settled all (inl stays) = subst (λ list. IsAdmissible model list decision) (sym (append-nil kept)) stays.0
all_left model kept [] decision back settled all (inr goes) =
    absurd (omega (arith, settled_few model kept back settled goes.1, ap length all, length-append kept (decision ∷ back)))
all_left model kept (first ∷ front) decision back settled all (inl stays) =
    subst (λ list. IsAdmissible model list decision) (append_assoc kept (first ∷ []) front)
    (all_left model (kept ++ first ∷ []) front decision back settled (all ∙ sym (append_assoc kept (first ∷ []) (front ++ decision ∷ back))) stays.1)
all_left model kept (first ∷ front) decision back settled all (inr goes) =
    absurd (omega (arith, settled_few model kept (front ++ decision ∷ back) settled goes.1, ap length all, length-append kept (first ∷ (front ++ decision ∷ back))))

-- each front of a settled list has a least state
pub front_has_least : (model : Model) (front : List Decision) (decision : Decision) (back : List Decision) → IsSettled model (front ++ decision ∷ back) → (state : State) × IsLeast model front state
front_has_least model front decision back settled =
    let admissible = all_left model [] front decision back (front ++ decision ∷ back) refl settled in
    (admissible.state, admissible.least)

-- a list that follows from a settled one is settled
next_settled : (model : Model) (below list : List Decision) → IsSettled model below → Accepts model below list ⊎ TakesOut model below list → IsSettled model list
next_settled model below list settled (inl accepts) = subst (IsSettled model) (sym accepts.2) (IsSettled-push model below accepts.0 settled accepts.1)
next_settled model below list settled (inr out) = Settles-idempotent model (out.front ++ out.back) list out.settles

-- the lists of a history are settled
pub history_settled : (model : Model) (history : History) (decisions : List Decision) → IsHistory model history → Contains history decisions → IsSettled model decisions
history_settled model [] decisions is there = absurd is
history_settled model (first ∷ []) decisions is there =
    ⊎_elim
    (λ same. subst (IsSettled model) same (subst (IsSettled model) (sym is) refl))
    (λ later. absurd (contains_none decisions later))
    (contains_cases first decisions [] there)
history_settled model (first ∷ below ∷ former) decisions is there =
    ⊎_elim
    (λ same. subst (IsSettled model) same (next_settled model below first (history_settled model (below ∷ former) below is.1 (contains_head below former)) is.0))
    (λ later. history_settled model (below ∷ former) decisions is.1 later)
    (contains_cases first decisions (below ∷ former) there)
