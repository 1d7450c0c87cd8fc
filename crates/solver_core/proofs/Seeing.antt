-- What a view of the list that stands tells of it.
use Rattle.std.proofs.Common.{◌≡◌, ℕ, false, true, List, Option, Some, sym, ◌∙◌, subst}
use Rattle.std.specs.Prelude.{Result, Ok, Err, IfOk, slice_get}
use Rattle.std.specs.declared.alloc.AllocError.{AllocError}
use Rattle.model_core.specs.declared.decision.Decision.{Decision}
use Rattle.model_core.specs.declared.model.Model.{Model}
use Rattle.model_core.specs.History.{standing}
use Rattle.model_core.specs.Lawful.{IsLawful}
use Rattle.model_core.specs.State.{State}
use Rattle.plan_defs.specs.Closure.{IsLeast}
use Rattle.plan_defs.specs.Settling.{IsSettled}
use Rattle.plan_defs.proofs.Settling.{least_same}
use Rattle.plan_defs.proofs.Histories.{standing_settled}
use Rattle.db_refusals.specs.Seeing.{Seen, seen_state}
use Rattle.flaw_core.specs.declared.flaw.Flaw.{Flaw}
use Rattle.flaw_core.specs.Rules.{IsLeastFor}
use Rattle.plan_db.specs.declared.fault.QueryFault.{QueryFault}
use Rattle.plan_db.specs.declared.fault.QueryFault.TheVariants as query
use Rattle.plan_db.specs.Database.{IsSound, HasCollapsed}
use Rattle.plan_db.specs.Answers.{Held, IsSeen, IsUnseen}
use Rattle.solver_core.specs.declared.visiting.Visited.{Visited}
use Rattle.solver_core.specs.Visiting.{HasFirst, IsVisited}

true_false : true ≡ false → ⊥
true_false same = cc

-- nothing is seen only where the list has collapsed
pub unseen_collapsed : (held : Held) (why : QueryFault) → IsUnseen held why → held.behind ≡ false → HasCollapsed held.database
unseen_collapsed held query.Behind unseen ready = absurd (true_false (sym unseen ∙ ready))
unseen_collapsed held query.Inconsistent unseen ready = unseen.1
unseen_collapsed held query.Unknown unseen ready = absurd unseen

module _ (held : Held) (view : Seen) (sees : IsSeen held view) (sound : IsSound held.database) (model : Model) (same : model ≡ held.database.model) where
  pub seen_least : IsLeastFor model view.decisions (seen_state view.stored)
  seen_least = record {
    lawful = subst IsLawful (sym same) sound.lawful;
    settled = subst (λ (m : Model). IsSettled m view.decisions) (sym same)
        (subst (λ (l : List Decision). IsSettled held.database.model l) (sym sees.decisions) (standing_settled held.database.model held.database.history sound.history));
    least = subst (λ (m : Model). IsLeast m view.decisions (seen_state view.stored)) (sym same)
        (subst (λ (l : List Decision). IsLeast held.database.model l (seen_state view.stored)) (sym sees.decisions) sees.least);
  }

  module _ (First : Model → List Decision → State → Option Flaw → Type 0)
      (Choices : Model → List Decision → State → ℕ → Flaw → List Decision → Type 0) (bound : ℕ) where
    pub seen_visited : (visited : Visited) → IsVisited First Choices model bound view.decisions visited → IsVisited First Choices held.database.model bound (standing held.database.history) visited
    seen_visited visited is =
        subst (λ (l : List Decision). IsVisited First Choices held.database.model bound l visited) sees.decisions
        (subst (λ (m : Model). IsVisited First Choices m bound view.decisions visited) same is)

    pub seen_first : (flaw : Flaw) → HasFirst First Choices held.database.model (standing held.database.history) flaw → First model view.decisions (seen_state view.stored) (Some flaw)
    seen_first flaw (state, least, is_first) =
        subst (λ (m : Model). First m view.decisions (seen_state view.stored) (Some flaw)) (sym same)
        (subst (λ (l : List Decision). First held.database.model l (seen_state view.stored) (Some flaw)) (sym sees.decisions)
        (subst (λ (s : State). First held.database.model (standing held.database.history) s (Some flaw))
        (least_same held.database.model (standing held.database.history) state (seen_state view.stored) least sees.least) is_first))

    seen_choice : (flaw : Flaw) (number : ℕ) (found : Option Decision)
        → ((choices : List Decision) → Choices model view.decisions (seen_state view.stored) bound flaw choices → found ≡ slice_get choices number)
        → (state : State) (choices : List Decision) → IsLeast held.database.model (standing held.database.history) state
        → Choices held.database.model (standing held.database.history) state bound flaw choices → found ≡ slice_get choices number
    seen_choice flaw number found picks state choices least are =
        picks choices
        (subst (λ (m : Model). Choices m view.decisions (seen_state view.stored) bound flaw choices) (sym same)
        (subst (λ (l : List Decision). Choices held.database.model l (seen_state view.stored) bound flaw choices) (sym sees.decisions)
        (subst (λ (s : State). Choices held.database.model (standing held.database.history) s bound flaw choices)
        (least_same held.database.model (standing held.database.history) state (seen_state view.stored) least sees.least) are)))

    pub seen_choices : (flaw : Flaw) (number : ℕ) (result : Result (Option Decision) AllocError)
        → IfOk result (λ found. (choices : List Decision) → Choices model view.decisions (seen_state view.stored) bound flaw choices → found ≡ slice_get choices number)
        → IfOk result (λ found. (state : State) (choices : List Decision) → IsLeast held.database.model (standing held.database.history) state
        → Choices held.database.model (standing held.database.history) state bound flaw choices → found ≡ slice_get choices number)
    seen_choices flaw number (Ok found) picks = seen_choice flaw number found picks
    seen_choices flaw number (Err none) picks = tt
