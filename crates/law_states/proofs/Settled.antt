-- What is left of lists, and their conflicts, can't be missing; and a decision is admissible or refused.
use Rattle.std.proofs.Common.{ℕ, zero, suc, ◌<◌, ◌⊎◌, inl, inr, List, [], ◌∷◌, ◌++◌, refl, arith}
use Rattle.model_core.specs.declared.decision.Decision.{Decision}
use Rattle.model_core.specs.declared.model.Model.{Model}
use Rattle.model_core.specs.declared.refusal.Refusal.{Refusal}
use Rattle.model_core.specs.Lawful.{IsLawful}
use Rattle.model_core.specs.State.{State}
use Rattle.plan_defs.specs.Closure.{IsLeast}
use Rattle.plan_defs.specs.Refusals.{rank_of, Hinders, IsRefused, IsAdmissible}
use Rattle.plan_defs.specs.Settling.{SettlesAfter, ReducesTo}
use Rattle.plan_defs.proofs.Settling.{Settles-idempotent}
use Rattle.law_states.specs.Undeniable.{Undeniable, DecisionsAreAdmissibleOrRefused, ListsSettle, ListsHaveConflicts}
use Rattle.law_states.proofs.Denying.{is_or_not}
use Rattle.law_states.proofs.Topping.{collapse_or_least}

-- ---- a decision

module _ (model : Model) (decisions : List Decision) (state : State) (decision : Decision) (least : IsLeast model decisions state)
    (none : IsAdmissible model decisions decision ⊎ ((reason : Refusal) × IsRefused model decisions decision reason) → ⊥) where
  first_is_none : (reason : Refusal) → Hinders model decisions state reason decision
      → ((earlier : Refusal) → rank_of earlier < rank_of reason → Hinders model decisions state earlier decision → ⊥) → ⊥
  first_is_none reason hinders first = none (inr (reason, record { state = state; least = least; refusal = record { hinders = hinders; first = first } }))

  free_below : (number : ℕ) (reason : Refusal) → rank_of reason < number → Hinders model decisions state reason decision → ⊥
  free_below zero reason few hinders = absurd (omega (arith, few))
  free_below (suc number) reason few hinders =
      first_is_none reason hinders (λ earlier less speaks. free_below number earlier (omega (arith, few, less)) speaks)

pub admissible_or_refused : DecisionsAreAdmissibleOrRefused
admissible_or_refused model decisions state decision least none = none (inl (record {
  state = state;
  least = least;
  free = λ reason hinders. free_below model decisions state decision least none (suc (rank_of reason)) reason (omega arith) hinders;
}))

-- ---- lists

settle_after : (model : Model) (kept decisions : List Decision) → Undeniable ((settled : List Decision) × SettlesAfter model kept decisions settled)
settle_after model kept [] none = none (kept, refl)
settle_after model kept (decision ∷ decisions) none = is_or_not (IsAdmissible model kept decision) (λ which. elim which [
  | inl stays ↦ settle_after model (kept ++ decision ∷ []) decisions (λ rest. none (rest.0, inl (stays, rest.1)))
  | inr goes ↦ settle_after model kept decisions (λ rest. none (rest.0, inr (goes, rest.1)))
])

pub lists_settle : ListsSettle
lists_settle model decisions none = settle_after model [] decisions none

reduce_after : (model : Model) → IsLawful model → (kept decisions : List Decision)
    → Undeniable ((conflict : List Decision) × ReducesTo model kept decisions conflict)
reduce_after model lawful kept [] none = lists_settle model kept none
reduce_after model lawful kept (decision ∷ decisions) none = lists_settle model (kept ++ decisions) (λ found.
    collapse_or_least model found.0 lawful (Settles-idempotent model (kept ++ decisions) found.0 found.1) (λ which. elim which [
      | inl collapsed ↦ reduce_after model lawful kept decisions (λ rest. none (rest.0, inl ((found.0, found.1, collapsed), rest.1)))
      | inr least ↦ reduce_after model lawful (kept ++ decision ∷ []) decisions (λ rest. none (rest.0, inr ((found.0, found.1, least), rest.1)))
    ]))

pub lists_have_conflicts : ListsHaveConflicts
lists_have_conflicts model decisions lawful none = reduce_after model lawful [] decisions none
