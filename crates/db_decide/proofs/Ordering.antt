-- Two tokens that are put in order.
use Rattle.std.proofs.Common.{◌≡◌, ℕ, List, [], ◌∷◌, ◌++◌, length, inl, inr, sym, ◌∙◌, subst}
use Rattle.std.proofs.lemmas.List.Elements.{Contains-push}
use Rattle.eu_name.specs.declared.name.Part.TheVariants.{Start, End}
use Rattle.eu_name.specs.declared.name.TokenName.{TokenName}
use Rattle.model_core.specs.declared.decision.Decision.{Decision}
use Rattle.model_core.specs.declared.decision.Decision.TheVariants.{Order}
use Rattle.model_core.specs.declared.model.Model.{Model}
use Rattle.token_store.specs.Orders.{name_at}
use Rattle.token_store.specs.Tokens.{tokens_now, IsNamedAt}
use Rattle.constraint_net.specs.declared.constraint.Constraint.{Constraint}
use Rattle.plan_defs.specs.Claims.{Claim, IsClaim, at_most, part_of}
use Rattle.db_refine.specs.Claims.{IsPostedIn}
use Rattle.model_core.specs.Content.{Content, shown}
use Rattle.db_refine.specs.Coming.{TakesToken}
use Rattle.db_store.specs.Stores.{Stored}
use Rattle.db_posting.specs.Origins.{content_now, argument_named}
use Rattle.db_posting.specs.Posted.{PostsClaims, OnlyPosts}
use Rattle.db_posting.proofs.Storing.{with_constraints}
use Rattle.db_posting.specs.Underway.{IsStoreUnderway}
use Rattle.db_opening.proofs.Opening.{named_at}
use Rattle.db_decide.specs.TakingUp.{MayFollow}
use Rattle.db_decide.proofs.Longer.{DecidesOf, due_longer, taken_underway, quiet_taken_up}
use Rattle.db_decide.proofs.Stating.{quiet_underway}
use Rattle.db_decide.proofs.Claiming.{said_is_posted, claims_underway}

takes_none : (first second token : TokenName) → TakesToken (Order first second) token → ⊥
takes_none first second token (inl is) = cc
takes_none first second token (inr (target, is)) = cc

decides_none : (first second token : TokenName) → DecidesOf (Order first second) token → ⊥
decides_none first second token (inl takes) = takes_none first second token takes
decides_none first second token (inr is) = cc

module _ (model : Model) (decisions : List Decision) (first second : TokenName) (old : Stored) (one other : ℕ)
    (named_first : IsNamedAt (tokens_now old.past) one first) (named_second : IsNamedAt (tokens_now old.past) other second)
    (may : MayFollow model decisions old (Order first second)) (due : List ℕ) where
  abbrev longer : List Decision
  longer = decisions ++ Order first second ∷ []

  abbrev content : Content
  content = content_now old

  abbrev Said : Claim → Type 0
  Said claim = claim ≡ at_most (argument_named content.tokens (record { token = one; part = End })) (argument_named content.tokens (record { token = other; part = Start }))

  named : at_most (argument_named content.tokens (record { token = one; part = End })) (argument_named content.tokens (record { token = other; part = Start }))
      ≡ at_most (part_of first End) (part_of second Start)
  named =
      let from : first ≡ name_at content.tokens one = named_at content.tokens one first (sym named_first) in
      let to : second ≡ name_at content.tokens other = named_at content.tokens other second (sym named_second) in
      λ i. at_most (part_of (sym from i) End) (part_of (sym to i) Start)

  claimed : (claim : Claim) → Said claim → IsClaim model longer (shown content) claim
  claimed claim said = inr (inr (inr (inr (inl (record {
    one = first;
    other = second;
    ordered = Contains-push decisions (Order first second);
    says = said ∙ named;
  })))))

  module _ (constraints : List Constraint) (posts : PostsClaims content.names Said old.net.constraints constraints) where
    posted : (before behind : TokenName) → Order first second ≡ Order before behind → IsPostedIn content.names constraints (at_most (part_of before End) (part_of behind Start))
    posted before behind is =
        let from : first ≡ before = cc in
        let to : second ≡ behind = cc in
        subst (λ (token : TokenName). IsPostedIn content.names constraints (at_most (part_of token End) (part_of behind Start))) from
        (subst (λ (token : TokenName). IsPostedIn content.names constraints (at_most (part_of first End) (part_of token Start))) to
        (said_is_posted content.names Said old.net.constraints constraints posts (at_most (part_of first End) (part_of second Start)) (sym named)))

    taken : IsStoreUnderway model longer longer (with_constraints old constraints) (length old.blocks) due
    taken =
        let start = quiet_underway model decisions (Order first second) old may.undecided (decides_none first second) (length old.blocks) [] may.rest.underway in
        let claims = claims_underway model decisions longer Said old constraints posts claimed (length old.blocks) [] start in
        taken_underway model decisions (Order first second) (with_constraints old constraints) (length old.blocks) due
        (due_longer model decisions longer (with_constraints old constraints) (length old.blocks) due claims)
        (quiet_taken_up model decisions (Order first second) (takes_none first second) constraints content (length old.blocks) due may.known tt posted
        (λ claim posts. absurd posts))

  pub ordered : (new : Stored) → OnlyPosts old new → PostsClaims content.names Said old.net.constraints new.net.constraints
      → IsStoreUnderway model longer longer new (length old.blocks) due
  ordered new only posts = subst (λ (stored : Stored). IsStoreUnderway model longer longer stored (length old.blocks) due) (sym only) (taken new.net.constraints posts)
