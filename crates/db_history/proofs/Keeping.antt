-- What is kept, through the steps.
use Rattle.std.proofs.Common.{◌≡◌, ℕ, ◌<◌, ◌≤◌, true, false, List, [], ◌∷◌, ◌++◌, length, take, Option, Some, None, Result, Ok, Err, refl, sym, ap, ◌∙◌, subst, arith}
use Rattle.std.specs.Prelude.{Contains, OnOk, IfOk, IsErr, MatchResult}
use Rattle.std.proofs.lemmas.Result.{IfOk-from_err}
use Rattle.std.proofs.Math.Seq.{take-append_seam}
use Rattle.std.proofs.lemmas.List.{length_push}
use Rattle.decision_log.specs.Undoing.{Pops, IsFormer}
use Rattle.decision_log.proofs.Lists.{before-push}
use Rattle.model_core.specs.declared.decision.Decision.{Decision}
use Rattle.model_core.specs.declared.model.Model.{Model}
use Rattle.model_core.specs.History.{History, standing, accepted}
use Rattle.model_core.specs.State.{State}
use Rattle.plan_defs.specs.Closure.{IsLeast}
use Rattle.plan_defs.specs.History.{IsHistory}
use Rattle.plan_defs.specs.Settling.{IsSettled}
use Rattle.eu_name.proofs.Ordered.{contains_head, contains_later}
use Rattle.plan_defs.proofs.Settling.{least_not_collapsed, history_settled}
use Rattle.db_history.specs.declared.footing.Footing.{Footing}
use Rattle.db_history.specs.declared.footing.Footing.TheVariants.{Rest, Fallen, Void}
use Rattle.db_history.specs.Advancing.{IsLeastOf, but_last}
use Rattle.db_store.specs.Stamps.{FollowStamps}
use Rattle.db_history.specs.Standing.{Stood, KeepsList, KeepsListOn}
use Rattle.db_history.proofs.Returning.{take_whole}
use Rattle.db_store.specs.Stores.{snapshot_of, named_content}
use Rattle.db_refusals.specs.InOrder.{state_of}
use Rattle.db_history.specs.Kept.{KeepsHistory, LeaveState, WithdrawsLast}

module _ (model : Model) (decisions : List Decision) (stood : Stood) (keeps : KeepsList model decisions stood) where
  by_footing : (footing : Footing) → stood.footing ≡ footing → KeepsListOn model decisions stood.stored stood.marks footing
  by_footing footing is = subst (KeepsListOn model decisions stood.stored stood.marks) is keeps

  -- whether there is a least state is told by the footing
  pub leaves_rest : stood.footing ≡ Rest → LeaveState model decisions true
  leaves_rest is = let stands = by_footing Rest is in (state_of (named_content (snapshot_of stood.stored)), stands.here.least)

  pub leaves_fallen : stood.footing ≡ Fallen → LeaveState model decisions false
  leaves_fallen is = (by_footing Fallen is).2

  pub leaves_void : stood.footing ≡ Void → LeaveState model decisions false
  leaves_void is = (by_footing Void is).1

  pub least_kept : stood.footing ≡ Rest → IsLeastOf model decisions (snapshot_of stood.stored)
  least_kept is = (by_footing Rest is).here

  -- where there is one, the list is at rest
  pub rests : (state : State) → IsLeast model decisions state → stood.footing ≡ Rest
  rests state least = by stood.footing refl
    where
      by : (footing : Footing) → stood.footing ≡ footing → stood.footing ≡ Rest
      by Rest is = is
      by Fallen is = absurd (least_not_collapsed model decisions state least (leaves_fallen is))
      by Void is = absurd (least_not_collapsed model decisions state least (leaves_void is))

-- ---- a further decision

-- the list that stands after a decision was put at the end
pub accepted_list : (history pushed : History) (decision : Decision) (list : List Decision) → list ≡ standing pushed → pushed ≡ accepted history decision → list ≡ standing history ++ decision ∷ []
accepted_list history pushed decision list same is = same ∙ ap (λ (h : History). standing h) is

pub accepted_before : (history pushed : History) (decision : Decision) (list : List Decision) → list ≡ standing pushed → pushed ≡ accepted history decision → but_last list ≡ standing history
accepted_before history pushed decision list same is =
    ap (λ (l : List Decision). but_last l) (accepted_list history pushed decision list same is) ∙ before-push (standing history) decision

-- what was pushed last is what is popped
pub pop_after_push : (before pushed popped : History) (decision : Decision) (last : Option Decision) → pushed ≡ accepted before decision → Pops pushed last popped → popped ≡ before
pop_after_push before pushed popped decision None is pops = absurd (pops.1 before decision is)
pop_after_push before pushed popped decision (Some last) is pops =
    let same : (standing before ++ decision ∷ []) ∷ before ≡ (standing popped ++ last ∷ []) ∷ popped = sym is ∙ pops in
    let rest : before ≡ popped = cc in
    sym rest

-- ---- taking the last one back

-- below a history that was gone on from there is one
pub withdrawn_is : (model : Model) (history : History) (decision : Decision) → IsHistory model (accepted history decision) → IsHistory model history
withdrawn_is model [] decision is = absurd (omega (arith, ap length is))
withdrawn_is model (decisions ∷ former) decision is = is.1

module _ (model : Model) (old new : History) (decision : Decision) (pops : old ≡ accepted new decision) (stood : Stood) (keeps : KeepsHistory model old stood) where
  -- what is kept is that of the list with the decision at its end
  pub list_with : KeepsList model (standing new ++ decision ∷ []) stood
  list_with = subst (λ (history : History). KeepsList model (standing history) stood) pops keeps.list

  pub fewer : length (standing new) < length (standing new ++ decision ∷ [])
  fewer = omega (arith, length_push (standing new) decision)

  module _ (number : ℕ) (is : number ≡ length (standing new)) where
    -- so one can go back
    pub can_withdraw : (problem : Model) × ((decisions : List Decision) × KeepsList problem decisions stood × (number < length decisions))
    can_withdraw = (model, (standing new ++ decision ∷ [], list_with, omega (arith, fewer, is)))

    -- and what is kept then is that of the list without it
    pub withdraws : (back : Stood)
        → ((problem : Model) (decisions : List Decision) → KeepsList problem decisions stood → number < length decisions → (back.footing ≡ Rest) × KeepsList problem (take number decisions) back)
        → FollowStamps stood.stored back.stored → WithdrawsLast model old stood true new back
    withdraws back goes stamps =
        let gone = goes model (standing new ++ decision ∷ []) list_with (omega (arith, fewer, is)) in
        let front : take number (standing new ++ decision ∷ []) ≡ standing new =
        ap (λ (k : ℕ). take k (standing new ++ decision ∷ [])) is ∙ take-append_seam (standing new) (decision ∷ []) in
        let here : KeepsList model (standing new) back = subst (λ (list : List Decision). KeepsList model list back) front gone.1 in (
          decision,
          pops,
          record { is_history = withdrawn_is model new decision (subst (IsHistory model) pops keeps.is_history); list = here },
          leaves_rest model (standing new) back here gone.0,
          stamps,
        )

-- ---- going back and bringing back

-- a front of all is the list
pub front_whole : (model : Model) (decisions : List Decision) (number : ℕ) (stood : Stood) → length decisions ≤ number → KeepsList model decisions stood → KeepsList model (take number decisions) stood
front_whole model decisions number stood long keeps = subst (λ list. KeepsList model list stood) (sym (take_whole decisions number long)) keeps

-- the list below the standing one is settled
pub former_settled : (model : Model) (history : History) (former : List Decision) → IsHistory model history → IsFormer history former → IsSettled model former
former_settled model history former is below =
    history_settled model history former is (subst (λ (lists : History). Contains lists former) (sym below.1)
    (contains_later (standing history) former (former ∷ below.0) (contains_head former below.0)))

module _ (model : Model) (old new : History) (former : List Decision) (is : IsHistory model old) (below : IsFormer old former) (off : old ≡ standing old ∷ new) where
  rest_is : former ∷ below.0 ≡ new
  rest_is = let both : standing old ∷ (former ∷ below.0) ≡ standing old ∷ new = sym below.1 ∙ off in cc

  -- after the standing list was taken off it stands
  pub former_stands : standing new ≡ former
  former_stands = ap (λ (history : History). standing history) (sym rest_is)

  pub former_is : IsHistory model new
  former_is = subst (IsHistory model) rest_is (subst (IsHistory model) below.1 is).1

-- what was made is handed on
pub built : {A B E : Type 0} (done : Result A E) (value : B) (result : Result B E) (P : B → Type 0) → OnOk done (P value)
    → MatchResult done (λ _. result ≡ Ok value) (λ _. IsErr result) → IfOk result P
built (Ok done) value result P holds is = subst (λ r. IfOk r P) (sym is) holds
built (Err fault) value result P holds is = IfOk-from_err result P is
