-- What deciding a token that isn't there, or is decided, is refused for.
use Rattle.std.proofs.Common.{List, Some}
use Rattle.std.specs.Prelude.{Contains}
use Rattle.eu_name.specs.declared.name.TokenName.{TokenName}
use Rattle.model_core.specs.declared.decision.Decision.{Decision}
use Rattle.model_core.specs.declared.decision.Decision.TheVariants.{Activate, Merge, Reject}
use Rattle.model_core.specs.declared.model.Model.{Model}
use Rattle.model_core.specs.Content.{shown}
use Rattle.db_store.specs.Stores.{Snapshot, named_content}
use Rattle.token_store.specs.Tokens.{token_names}
use Rattle.model_core.specs.declared.refusal.Refusal.{Refusal}
use Rattle.model_core.specs.declared.refusal.Refusal.TheVariants.{Unknown, WrongType, Decided, NotInDomain, NotActive, NotSamePredicate, NotRejectable, SameToken, ActiveFull}
use Rattle.db_refusals.specs.Judging.{FindsUndecided}
use Rattle.db_refusals.specs.Reasons.{IsFirstReason}
use Rattle.db_refusals.proofs.First.{unknown_first, decided_first}

module _ (model : Model) (decisions : List Decision) (snapshot : Snapshot) (token : TokenName) where
  pub activate_refused : (reason : Refusal) → FindsUndecided model decisions snapshot.tokens token (Some reason)
      → IsFirstReason model decisions (shown (named_content snapshot)) (Activate token) (Some reason)
  activate_refused Unknown finds = unknown_first model decisions (shown (named_content snapshot)) (Activate token) finds
  activate_refused WrongType finds = absurd finds
  activate_refused Decided finds = decided_first model decisions (shown (named_content snapshot)) (Activate token) finds.0 (λ h. h) finds.1
  activate_refused NotInDomain finds = absurd finds
  activate_refused NotActive finds = absurd finds
  activate_refused NotSamePredicate finds = absurd finds
  activate_refused NotRejectable finds = absurd finds
  activate_refused SameToken finds = absurd finds
  activate_refused ActiveFull finds = absurd finds

  pub reject_refused : (reason : Refusal) → FindsUndecided model decisions snapshot.tokens token (Some reason)
      → IsFirstReason model decisions (shown (named_content snapshot)) (Reject token) (Some reason)
  reject_refused Unknown finds = unknown_first model decisions (shown (named_content snapshot)) (Reject token) finds
  reject_refused WrongType finds = absurd finds
  reject_refused Decided finds = decided_first model decisions (shown (named_content snapshot)) (Reject token) finds.0 (λ h. h) finds.1
  reject_refused NotInDomain finds = absurd finds
  reject_refused NotActive finds = absurd finds
  reject_refused NotSamePredicate finds = absurd finds
  reject_refused NotRejectable finds = absurd finds
  reject_refused SameToken finds = absurd finds
  reject_refused ActiveFull finds = absurd finds

  pub merge_refused : (target : TokenName) → Contains (token_names snapshot.tokens) target → (reason : Refusal) → FindsUndecided model decisions snapshot.tokens token (Some reason)
      → IsFirstReason model decisions (shown (named_content snapshot)) (Merge token target) (Some reason)
  merge_refused target there Unknown finds = unknown_first model decisions (shown (named_content snapshot)) (Merge token target) (λ known. finds known.0)
  merge_refused target there WrongType finds = absurd finds
  merge_refused target there Decided finds = decided_first model decisions (shown (named_content snapshot)) (Merge token target) (finds.0, there) (λ h. h) finds.1
  merge_refused target there NotInDomain finds = absurd finds
  merge_refused target there NotActive finds = absurd finds
  merge_refused target there NotSamePredicate finds = absurd finds
  merge_refused target there NotRejectable finds = absurd finds
  merge_refused target there SameToken finds = absurd finds
  merge_refused target there ActiveFull finds = absurd finds
