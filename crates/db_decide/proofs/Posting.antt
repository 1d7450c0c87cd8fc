-- A constraint, or a relation between two tokens, that is posted.
use Rattle.std.proofs.Common.{◌≡◌, ℕ, List, [], ◌∷◌, ◌++◌, length, inl, inr, sym, subst}
use Rattle.std.specs.Prelude.{Contains}
use Rattle.std.proofs.lemmas.List.Elements.{All-weaker, Contains-push}
use Rattle.domain_core.specs.declared.kind.Kind.{Kind}
use Rattle.eu_name.specs.declared.name.TokenName.{TokenName}
use Rattle.model_core.specs.declared.decision.ConArg.{ConArg}
use Rattle.model_core.specs.declared.decision.Decision.{Decision}
use Rattle.model_core.specs.declared.decision.Decision.TheVariants.{Order, Constrain, Relate}
use Rattle.model_core.specs.declared.item.Rel.{Rel}
use Rattle.model_core.specs.declared.model.Model.{Model}
use Rattle.model_core.specs.Content.{Content, shown}
use Rattle.model_core.specs.Decided.{IsTaken}
use Rattle.token_store.specs.Orders.{name_at}
use Rattle.token_store.specs.Tokens.{tokens_now, IsNamedAt}
use Rattle.constraint_net.specs.declared.constraint.Constraint.{Constraint}
use Rattle.plan_defs.specs.Claims.{Claim, IsClaim, Posts, posted_claim, relates}
use Rattle.plan_defs.specs.Closure.{IsRespected}
use Rattle.plan_defs.specs.Terms.{ArgumentCounts}
use Rattle.plan_defs.proofs.Lower.{counts_further}
use Rattle.db_refine.specs.Coming.{TakesToken}
use Rattle.db_refine.proofs.Justifying.{taken_longer}
use Rattle.db_store.specs.Stores.{Stored}
use Rattle.db_posting.specs.Origins.{content_now}
use Rattle.db_posting.specs.Posted.{PostsClaims, OnlyPosts}
use Rattle.db_posting.specs.Underway.{IsStoreUnderway}
use Rattle.db_posting.proofs.Storing.{with_constraints}
use Rattle.db_opening.proofs.Opening.{named_at}
use Rattle.db_decide.specs.TakingUp.{MayFollow}
use Rattle.db_decide.proofs.Longer.{DecidesOf, due_longer, taken_underway, quiet_taken_up}
use Rattle.db_decide.proofs.Stating.{quiet_underway}
use Rattle.db_decide.proofs.Claiming.{said_is_posted, claims_underway}

module _ (model : Model) (decisions : List Decision) (decision : Decision) (old : Stored) (quiet : (token : TokenName) → DecidesOf decision token → ⊥)
    (orders_none : (one other : TokenName) → decision ≡ Order one other → ⊥) (granted : IsRespected decision (shown (content_now old)))
    (may : MayFollow model decisions old decision) (due : List ℕ) where
  abbrev longer : List Decision
  longer = decisions ++ decision ∷ []

  abbrev content : Content
  content = content_now old

  claimed : (claim : Claim) → Posts decision claim → IsClaim model longer (shown content) claim
  claimed claim posts = inr (inr (inr (inr (inr (record {
    decision = decision;
    stands = Contains-push decisions decision;
    posts = posts;
    counts = All-weaker (ArgumentCounts model (IsTaken decisions)) (ArgumentCounts model (IsTaken longer))
        (counts_further model (IsTaken decisions) (IsTaken longer) (taken_longer model decisions (decision ∷ []))) claim.arguments (may.counts claim posts);
  })))))

  taken : (constraints : List Constraint) → PostsClaims content.names (Posts decision) old.net.constraints constraints
      → IsStoreUnderway model longer longer (with_constraints old constraints) (length old.blocks) due
  taken constraints posts =
      let start = quiet_underway model decisions decision old may.undecided quiet (length old.blocks) [] may.rest.underway in
      let claims = claims_underway model decisions longer (Posts decision) old constraints posts claimed (length old.blocks) [] start in
      let taken_none : (token : TokenName) → TakesToken decision token → ⊥ = λ token takes. quiet token (inl takes) in
      taken_underway model decisions decision (with_constraints old constraints) (length old.blocks) due
      (due_longer model decisions longer (with_constraints old constraints) (length old.blocks) due claims)
      (quiet_taken_up model decisions decision taken_none constraints content (length old.blocks) due may.known granted
      (λ one other is. absurd (orders_none one other is)) (said_is_posted content.names (Posts decision) old.net.constraints constraints posts))

  posted : (new : Stored) → OnlyPosts old new → PostsClaims content.names (Posts decision) old.net.constraints new.net.constraints
      → IsStoreUnderway model longer longer new (length old.blocks) due
  posted new only posts = subst (λ (stored : Stored). IsStoreUnderway model longer longer stored (length old.blocks) due) (sym only) (taken new.net.constraints posts)

-- ---- a constraint

module _ (kind : Kind) (arguments : List ConArg) where
  constraint_decides_none : (token : TokenName) → DecidesOf (Constrain kind arguments) token → ⊥
  constraint_decides_none token (inl (inl is)) = cc
  constraint_decides_none token (inl (inr (target, is))) = cc
  constraint_decides_none token (inr is) = cc

  pub constrained : (model : Model) (decisions : List Decision) (old new : Stored) (due : List ℕ) → MayFollow model decisions old (Constrain kind arguments) → OnlyPosts old new
      → PostsClaims (content_now old).names (λ claim. claim ≡ posted_claim kind arguments) old.net.constraints new.net.constraints
      → IsStoreUnderway model (decisions ++ Constrain kind arguments ∷ []) (decisions ++ Constrain kind arguments ∷ []) new (length old.blocks) due
  constrained model decisions old new due may only posts =
      posted model decisions (Constrain kind arguments) old constraint_decides_none (λ one other is. cc) tt may due new only posts

-- ---- a relation

module _ (relation : Rel) (first second : TokenName) where
  relation_decides_none : (token : TokenName) → DecidesOf (Relate relation first second) token → ⊥
  relation_decides_none token (inl (inl is)) = cc
  relation_decides_none token (inl (inr (target, is))) = cc
  relation_decides_none token (inr is) = cc

  module _ (model : Model) (decisions : List Decision) (old new : Stored) (one other : ℕ)
      (named_first : IsNamedAt (tokens_now old.past) one first) (named_second : IsNamedAt (tokens_now old.past) other second)
      (due : List ℕ) (may : MayFollow model decisions old (Relate relation first second)) where
    abbrev tokens : List TokenName
    tokens = (content_now old).tokens

    pub related : OnlyPosts old new
        → PostsClaims (content_now old).names (Contains (relates relation (name_at tokens one) (name_at tokens other))) old.net.constraints new.net.constraints
        → IsStoreUnderway model (decisions ++ Relate relation first second ∷ []) (decisions ++ Relate relation first second ∷ []) new (length old.blocks) due
    related only posts =
        let Said : TokenName → TokenName → Type 0 = λ from to. PostsClaims (content_now old).names (Contains (relates relation from to)) old.net.constraints new.net.constraints in
        let by_first = subst (λ (from : TokenName). Said from (name_at tokens other)) (sym (named_at tokens one first (sym named_first))) posts in
        let by_both = subst (λ (to : TokenName). Said first to) (sym (named_at tokens other second (sym named_second))) by_first in
        posted model decisions (Relate relation first second) old relation_decides_none (λ one other is. cc) tt may due new only by_both
