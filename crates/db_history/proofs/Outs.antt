-- What is kept after a decision was taken out.
use Rattle.std.proofs.Common.{◌≡◌, ℕ, Bool, true, false, List, ◌∷◌, ◌⊎◌, inl, inr, Result, Ok, Err, sym, ap, ◌∙◌, subst}
use Rattle.std.specs.Prelude.{OnOk, OnErr, IfOk, IsOk}
use Rattle.decision_log.specs.Taking.{kept_of}
use Rattle.model_core.specs.declared.decision.Decision.{Decision}
use Rattle.model_core.specs.declared.model.Model.{Model}
use Rattle.model_core.specs.History.{History, standing}
use Rattle.plan_defs.specs.History.{IsHistory}
use Rattle.db_history.specs.Standing.{Stood, KeepsList}
use Rattle.db_history.specs.Kept.{KeepsHistory, KeepsUnless, LeaveState}
use Rattle.db_history.specs.Settled.{SettlesWithout}
use Rattle.db_history.specs.Subjects.{TakesOutAt}
use Rattle.db_history.proofs.Overs.{taken_out_is}

-- what is promised where it is done
when_done : {A E : Type 0} (done : Result A E) (W : Type 0) → OnOk done W → IsOk done → W
when_done (Ok d) W w ok = w
when_done (Err fault) W w ok = absurd (cc)

module _ (model : Model) (old new : History) (place : ℕ) (list flags : List Bool) (settled : List Decision) (same : list ≡ flags)
    (without : SettlesWithout model place (standing old) settled flags) (is : new ≡ kept_of list (standing old) ∷ old) where
  settled_is : new ≡ settled ∷ old
  settled_is = is ∙ ap (λ (l : List Decision). l ∷ old) (ap (λ (f : List Bool). kept_of f (standing old)) same ∙ without.kept)

  stands_is : standing new ≡ settled
  stands_is = ap (λ (h : History). standing h) settled_is

  out_is : (new ≡ standing new ∷ old) × TakesOutAt model place (standing old) (standing new)
  out_is = (
    settled_is ∙ ap (λ (l : List Decision). l ∷ old) (sym stands_is),
    subst (TakesOutAt model place (standing old)) (sym stands_is) without.out,
  )

  history_is : IsHistory model old → IsHistory model new
  history_is before = subst (IsHistory model) (sym settled_is) (taken_out_is model old place settled before without.out)

  kept_is : (kept : Stood) → KeepsList model settled kept → KeepsList model (standing new) kept
  kept_is kept keeps = subst (λ (l : List Decision). KeepsList model l kept) (sym stands_is) keeps

module _ {A E : Type 0} (model : Model) (old new : History) (place : ℕ) (list flags : List Bool) (settled : List Decision) (same : list ≡ flags) (done : Result A E)
    (without : OnOk done (SettlesWithout model place (standing old) settled flags)) where
  pub out_list : {F : Type 0} (result : Result Bool F) → OnOk result ((new ≡ kept_of list (standing old) ∷ old) × IsOk done) → OnOk result ((new ≡ standing new ∷ old) × TakesOutAt model place (standing old) (standing new))
  out_list (Ok fit) told = out_is model old new place list flags settled same (when_done done (SettlesWithout model place (standing old) settled flags) without told.1) told.0
  out_list (Err fault) told = tt

  pub out_fits : {F : Type 0} (kept : Stood) → OnOk done (KeepsList model settled kept) → (result : Result Bool F) → OnOk result ((new ≡ kept_of list (standing old) ∷ old) × IsOk done)
      → IfOk result (λ fit. (problem : Model) (decisions : List Decision) → KeepsList problem decisions kept → LeaveState problem decisions fit)
      → IfOk result (LeaveState model (standing new))
  out_fits kept keeps (Ok fit) told fits =
      fits model (standing new) (kept_is model old new place list flags settled same (when_done done (SettlesWithout model place (standing old) settled flags) without told.1) told.0 kept (when_done done (KeepsList model settled kept) keeps told.1))
  out_fits kept keeps (Err fault) told fits = tt

  pub out_kept : {F : Type 0} (first kept last : Stood) (mid behind : Bool) → KeepsHistory model old first → OnOk done (KeepsList model settled kept) → last ≡ kept
      → (kept ≡ first) ⊎ (mid ≡ true) → (result : Result Bool F) → OnOk result ((new ≡ kept_of list (standing old) ∷ old) × IsOk done) → OnErr result ((new ≡ old) × (behind ≡ mid)) → KeepsUnless behind model new last
  out_kept first kept last mid behind before keeps stays moved (Ok fit) told left = record {
    is_history = history_is model old new place list flags settled same (when_done done (SettlesWithout model place (standing old) settled flags) without told.1) told.0 before.is_history;
    list = λ ready. subst (KeepsList model (standing new)) (sym stays)
        (kept_is model old new place list flags settled same (when_done done (SettlesWithout model place (standing old) settled flags) without told.1) told.0 kept (when_done done (KeepsList model settled kept) keeps told.1));
  }
  out_kept first kept last mid behind before keeps stays moved (Err fault) told left = record {
    is_history = subst (IsHistory model) (sym left.0) before.is_history;
    list = by_moved moved;
  }
    where
      by_moved : (kept ≡ first) ⊎ (mid ≡ true) → behind ≡ false → KeepsList model (standing new) last
      by_moved (inl unmoved) ready =
          subst (λ (h : History). KeepsList model (standing h) last) (sym left.0) (subst (KeepsList model (standing old)) (sym (stays ∙ unmoved)) before.list)
      by_moved (inr marked) ready = absurd (cc (left.1))
