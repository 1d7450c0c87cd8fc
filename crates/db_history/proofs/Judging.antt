-- What speaks against a decision in a store that has the least state.
use Rattle.std.proofs.Common.{List, Some, None, Err, subst}
use Rattle.model_core.specs.declared.decision.Decision.{Decision}
use Rattle.model_core.specs.declared.decision.Decision.TheVariants.{Specify, Activate, Merge, Reject, Order, Constrain, Relate}
use Rattle.model_core.specs.declared.model.Model.{Model}
use Rattle.model_core.specs.State.{State}
use Rattle.plan_defs.specs.Refusals.{Hinders, IsRefused, IsAdmissible}
use Rattle.model_core.specs.declared.refusal.Refusal.TheVariants.{Unknown, WrongType, Decided, NotInDomain, NotActive, NotSamePredicate, NotRejectable, SameToken, ActiveFull}
use Rattle.model_core.specs.declared.refusal.Refusal.{Refusal}
use Rattle.plan_defs.proofs.Settling.{least_same, least_not_collapsed}
use Rattle.model_core.specs.Content.{shown, AreAlike}
use Rattle.db_refusals.specs.Reasons.{IsFirstReason}
use Rattle.db_history.specs.Advancing.{IsLeastOf}
use Rattle.db_history.proofs.Following.{known_alike}
use Rattle.db_store.specs.Stores.{Stored, snapshot_of, IsSnapshot, named_content}
use Rattle.db_store.proofs.Naming.{names_are_once}
use Rattle.db_refusals.specs.InOrder.{state_of}
use Rattle.db_refusals.proofs.Seen.{put_in_order}
use Rattle.db_history.specs.declared.objection.Objection.{Objection}
use Rattle.db_history.specs.declared.objection.Objection.TheVariants.{Collapsed, Refused}
use Rattle.db_history.specs.Kept.{IsJudged}

alike_back : (one other : State) → AreAlike one other → AreAlike other one
alike_back one other alike = record {
  tokens = λ token. ((alike.tokens token).1, (alike.tokens token).0);
  blocks = λ block. ((alike.blocks block).1, (alike.blocks block).0);
  gives = λ name domain. ((alike.gives name domain).1, (alike.gives name domain).0);
}

-- what speaks against it in one state does in one that is like it
hinders_there : (model : Model) (decisions : List Decision) (one other : State) → AreAlike one other → (reason : Refusal) (decision : Decision)
    → Hinders model decisions one reason decision → Hinders model decisions other reason decision
hinders_there model decisions one other alike Unknown decision unknown = λ known. unknown (known_alike one other alike decision known)
hinders_there model decisions one other alike Decided decision hinders = hinders
hinders_there model decisions one other alike NotActive decision hinders = hinders
hinders_there model decisions one other alike WrongType (Constrain kind arguments) hinders = hinders
hinders_there model decisions one other alike NotInDomain (Specify name value) hinders = hinders
hinders_there model decisions one other alike NotInDomain (Constrain kind arguments) hinders = hinders
hinders_there model decisions one other alike NotSamePredicate (Merge token target) hinders = hinders
hinders_there model decisions one other alike NotRejectable (Reject token) hinders = hinders
hinders_there model decisions one other alike SameToken (Order first second) hinders = hinders
hinders_there model decisions one other alike SameToken (Relate relation first second) hinders = hinders
hinders_there model decisions one other alike ActiveFull (Activate token) hinders = hinders
hinders_there model decisions one other alike reason decision hinders = hinders

module _ (model : Model) (decisions : List Decision) (decision : Decision) (stored : Stored) (is : IsSnapshot (snapshot_of stored))
    (least : IsLeastOf model decisions (snapshot_of stored)) where
  abbrev content : State
  content = shown (named_content (snapshot_of stored))

  abbrev seen : State
  seen = state_of (named_content (snapshot_of stored))

  alike : AreAlike content seen
  alike = (put_in_order (named_content (snapshot_of stored)) (names_are_once (snapshot_of stored) is)).alike

  pub none_speaks : IsFirstReason model decisions content decision None → IsAdmissible model decisions decision
  none_speaks none = record {
    state = seen;
    least = least.least;
    free = λ reason hinders. none reason (hinders_there model decisions seen content (alike_back content seen alike) reason decision hinders);
  }

  pub one_speaks : (reason : Refusal) → IsFirstReason model decisions content decision (Some reason) → IsRefused model decisions decision reason
  one_speaks reason first = record {
    state = seen;
    least = least.least;
    refusal = record {
      hinders = hinders_there model decisions content seen alike reason decision first.hinders;
      first = λ earlier before hinders. first.first earlier before (hinders_there model decisions seen content (alike_back content seen alike) earlier decision hinders);
    };
  }

-- what is objected to isn't admissible
pub judged_goes : (model : Model) (decisions : List Decision) (decision : Decision) (objection : Objection) → IsJudged model decisions decision (Err objection)
    → IsAdmissible model decisions decision → ⊥
judged_goes model decisions decision Collapsed collapsed = λ admissible. least_not_collapsed model decisions admissible.state admissible.least collapsed
judged_goes model decisions decision (Refused reason) refused = λ admissible.
    admissible.free reason
    (subst (λ (state : State). Hinders model decisions state reason decision) (least_same model decisions refused.state admissible.state refused.least admissible.least)
    refused.refusal.hinders)
