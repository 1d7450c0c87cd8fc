-- A token that is rejected.
use Rattle.std.proofs.Common.{◌≡◌, ℕ, List, [], ◌∷◌, ◌++◌, length, inl, inr, sym, subst}
use Rattle.std.specs.Prelude.{Contains}
use Rattle.std.proofs.lemmas.List.Elements.{Contains-push}
use Rattle.eu_name.specs.declared.name.TokenName.{TokenName}
use Rattle.model_core.specs.declared.decision.Decision.{Decision}
use Rattle.model_core.specs.declared.decision.Decision.TheVariants.{Reject}
use Rattle.model_core.specs.declared.model.Model.{Model}
use Rattle.model_core.specs.declared.view.TokenState.TheVariants.{Rejected}
use Rattle.token_store.specs.Tokens.{tokens_now, with_state, IsNamedAt}
use Rattle.model_core.specs.Content.{Content}
use Rattle.db_refine.specs.Coming.{TakesToken}
use Rattle.db_store.specs.Stores.{Stored, snapshot_of, IsSnapshot}
use Rattle.db_posting.specs.Origins.{content_now}
use Rattle.db_posting.specs.Underway.{IsStoreUnderway}
use Rattle.db_decide.specs.TakingUp.{MayFollow}
use Rattle.db_decide.proofs.Longer.{DecidesOf, due_longer, taken_underway, quiet_taken_up}
use Rattle.db_decide.proofs.Stating.{stated, content_stated, stated_underway}

takes_none : (rejected token : TokenName) → TakesToken (Reject rejected) token → ⊥
takes_none rejected token (inl is) = cc
takes_none rejected token (inr (target, is)) = cc

decides_only : (rejected token : TokenName) → DecidesOf (Reject rejected) token → token ≡ rejected
decides_only rejected token (inl takes) = absurd (takes_none rejected token takes)
decides_only rejected token (inr is) = cc

module _ (model : Model) (decisions : List Decision) (token : TokenName) (old : Stored) (sound : IsSnapshot (snapshot_of old)) (place : ℕ)
    (named : IsNamedAt (tokens_now old.past) place token) (may : MayFollow model decisions old (Reject token)) (due : List ℕ) where
  pub rejected : (new : Stored) → new ≡ record old { past = with_state (tokens_now old.past) place Rejected ∷ old.past }
      → IsStoreUnderway model (decisions ++ Reject token ∷ []) (decisions ++ Reject token ∷ []) new (length old.blocks) due
  rejected new is =
      let start = stated_underway model old sound place Rejected decisions (Reject token) token named may.undecided (decides_only token)
      (Contains-push decisions (Reject token)) (length old.blocks) [] may.rest.underway in
      let more = due_longer model decisions (decisions ++ Reject token ∷ []) (stated model old sound place Rejected) (length old.blocks) due start in
      let known = subst (λ (content : Content). Contains content.tokens token) (sym (content_stated model old sound place Rejected)) may.known in
      let taken = taken_underway model decisions (Reject token) (stated model old sound place Rejected) (length old.blocks) due more
      (quiet_taken_up model decisions (Reject token) (takes_none token) old.net.constraints (content_now (stated model old sound place Rejected)) (length old.blocks) due
      known tt (λ one other is. absurd (cc)) (λ claim posts. absurd posts)) in
      subst (λ (stored : Stored). IsStoreUnderway model (decisions ++ Reject token ∷ []) (decisions ++ Reject token ∷ []) stored (length old.blocks) due) (sym is) taken
