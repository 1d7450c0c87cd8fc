-- What a search found, as it is seen and told.
use Rattle.std.proofs.Common.{◌≡◌, ℕ, true, false, List, Result, Ok, Err, sym, ◌∙◌, subst}
use Rattle.std.specs.Prelude.{IfOk}
use Rattle.std.specs.declared.alloc.AllocError.{AllocError}
use Rattle.model_core.specs.declared.decision.Decision.{Decision}
use Rattle.model_core.specs.declared.model.Model.{Model}
use Rattle.model_core.specs.History.{standing}
use Rattle.model_core.specs.Lawful.{IsLawful}
use Rattle.model_core.specs.State.{State}
use Rattle.flaw_core.specs.Rules.{IsLeastFor}
use Rattle.plan_db.specs.Answers.{Held, IsSeen, IsUnseen}
use Rattle.plan_db.specs.Database.{IsSound}
use Rattle.plan_db.specs.declared.fault.QueryFault.{QueryFault}
use Rattle.plan_db.specs.declared.fault.QueryFault.TheVariants as query
use Rattle.plan_defs.specs.Closure.{IsLeast}
use Rattle.plan_defs.specs.Settling.{IsSettled}
use Rattle.plan_defs.proofs.Settling.{least_same, least_not_collapsed}
use Rattle.plan_defs.specs.Flaws.{HasFlaw}
use Rattle.plan_defs.proofs.Histories.{standing_settled}
use Rattle.db_refusals.specs.Seeing.{Seen, seen_state}
use Rattle.flaw_core.specs.declared.ending.SearchEnd.TheVariants.{Found}
use Rattle.session_replies.specs.Texts.{IsFlawlessEnd, IsFoundReply, TellsSearch}

true_false : true ≡ false → ⊥
true_false same = cc

module _ (held : Held) (view : Seen) (sees : IsSeen held view) (sound : IsSound held.database) (model : Model) (same : model ≡ held.database.model) where
  pub seen_least : IsLeastFor model view.decisions (seen_state view.stored)
  seen_least = record {
    lawful = subst IsLawful (sym same) sound.lawful;
    settled = subst (λ (m : Model). IsSettled m view.decisions) (sym same)
        (subst (λ (l : List Decision). IsSettled held.database.model l) (sym sees.decisions) (standing_settled held.database.model held.database.history sound.history));
    least = subst (λ (m : Model). IsLeast m view.decisions (seen_state view.stored)) (sym same)
        (subst (λ (l : List Decision). IsLeast held.database.model l (seen_state view.stored)) (sym sees.decisions) sees.least);
  }

-- what was found is seen
pub found_seen : (held : Held) (visits : ℕ) (why : QueryFault) → held.behind ≡ false → IsFlawlessEnd (Found visits) held.database → IsUnseen held why → ⊥
found_seen held visits query.Behind ready found unseen = true_false (sym unseen ∙ ready)
found_seen held visits query.Inconsistent ready found unseen =
    least_not_collapsed held.database.model (standing held.database.history) found.1.state found.1.least unseen.1
found_seen held visits query.Unknown ready found unseen = unseen

module _ (held : Held) (view : Seen) (sees : IsSeen held view) (model : Model) (same : model ≡ held.database.model) (visits : ℕ) where
  -- without a flaw
  pub seen_flawless : IsFlawlessEnd (Found visits) held.database → HasFlaw model view.decisions (seen_state view.stored) → ⊥
  seen_flawless found flaw =
      found.1.flawless
      (subst (λ (s : State). HasFlaw held.database.model (standing held.database.history) s)
      (least_same held.database.model (standing held.database.history) (seen_state view.stored) found.1.state sees.least found.1.least)
      (subst (λ (l : List Decision). HasFlaw held.database.model l (seen_state view.stored)) sees.decisions
      (subst (λ (m : Model). HasFlaw m view.decisions (seen_state view.stored)) same flaw)))

  found_told : (reply : List ℕ) → IsFoundReply model view.decisions (seen_state view.stored) visits reply → TellsSearch (Found visits) held.database reply
  found_told reply found =
      let here : IsFoundReply held.database.model (standing held.database.history) (seen_state view.stored) visits reply =
      subst (λ (l : List Decision). IsFoundReply held.database.model l (seen_state view.stored) visits reply) sees.decisions
      (subst (λ (m : Model). IsFoundReply m view.decisions (seen_state view.stored) visits reply) same found)
      in
      (here.1, ((seen_state view.stored, here.0, (sees.least, here.2.0, here.2.1)), here.2.2))

  pub found_is_told : (result : Result (List ℕ) AllocError) → IfOk result (IsFoundReply model view.decisions (seen_state view.stored) visits)
      → IfOk result (TellsSearch (Found visits) held.database)
  found_is_told (Ok reply) found = found_told reply found
  found_is_told (Err none) found = tt
