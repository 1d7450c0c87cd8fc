-- The states of tokens, and what is posted of what is claimed, where more comes.
use Rattle.std.proofs.Common.{◌≡◌, ℕ, List, [], ◌∷◌, ◌++◌, Ok, Err, Some, ◌⊎◌, inl, inr, sym, subst}
use Rattle.std.specs.Prelude.{All, Result, OnOk, slice_get}
use Rattle.std.specs.declared.alloc.AllocError.{AllocError}
use Rattle.std.proofs.lemmas.List.{append_assoc, append-nil}
use Rattle.std.proofs.lemmas.List.Elements.{All-head, All-tail, All-weaker}
use Rattle.eu_name.specs.declared.name.TokenName.{TokenName}
use Rattle.model_core.specs.declared.decision.Decision.{Decision}
use Rattle.model_core.specs.declared.item.Item.{Item}
use Rattle.model_core.specs.declared.model.Model.{Model}
use Rattle.model_core.specs.declared.view.TokenState.{TokenState}
use Rattle.model_core.specs.declared.view.TokenState.TheVariants.{Inactive, Active, Fact, Merged, Rejected}
use Rattle.model_core.specs.Decided.{IsTaken, IsRejected}
use Rattle.model_core.specs.State.{State}
use Rattle.model_core.specs.TokenStates.{HasTokenState}
use Rattle.narrow_core.specs.declared.field.Field.{Field}
use Rattle.constraint_net.specs.declared.constraint.Constraint.{Constraint}
use Rattle.plan_defs.specs.Claims.{Claim, IsClaim, ItemSays}
use Rattle.plan_defs.specs.Terms.{Context}
use Rattle.db_refine.specs.Claims.{SaysClaim}
use Rattle.model_core.specs.Content.{Content, shown}
use Rattle.db_refine.specs.Progress.{IsJustified}
use Rattle.db_refine.proofs.Justifying.{posting_justified}
use Rattle.db_store.specs.Stores.{Stored, snapshot_of}
use Rattle.db_posting.specs.Counting.{AreTokenStates, ItemCounts}
use Rattle.db_posting.specs.Posted.{PostsClaims, Asserts}
use Rattle.db_posting.proofs.Said.{posts_nothing, posts_same}
use Rattle.db_posting.proofs.Saying.{what_counts_is_said}
use Rattle.db_opening.specs.Arriving.{BeginsAs}

-- ---- states

-- a token's state is the same where all tokens keep their places
pub token_state : (one other : State) → ((k : ℕ) (t : TokenName) → slice_get one.tokens k ≡ Some t → slice_get other.tokens k ≡ Some t) → (model : Model) (decisions : List Decision)
    (token : TokenName) (state : TokenState) → HasTokenState model one decisions token state → HasTokenState model other decisions token state
token_state one other kept model decisions token Inactive is = is
token_state one other kept model decisions token Active is = is
token_state one other kept model decisions token Fact is = is
token_state one other kept model decisions token (Merged place) is = (is.0, kept place is.0 is.1, is.2)
token_state one other kept model decisions token Rejected is = is

-- a token that comes has the state in which it begins, where nothing is decided of it
pub begun_state : (model : Model) (at : State) (decisions : List Decision) (token : TokenName) (state : TokenState) → BeginsAs model token state
    → (IsTaken decisions token ⊎ IsRejected decisions token → ⊥) → HasTokenState model at decisions token state
begun_state model at decisions token Fact is none = is
begun_state model at decisions token Inactive no_fact none = λ decided. elim decided [
  | inl fact ↦ no_fact fact
  | inr other ↦ none other
]
begun_state model at decisions token Active is none = absurd is
begun_state model at decisions token (Merged place) is none = absurd is
begun_state model at decisions token Rejected is none = absurd is

-- ---- what is posted

module _ (model : Model) (decisions : List Decision) (tables : List Field) (content : Content) where
  abbrev says_asked : Constraint → Type 0
  says_asked constraint = (claim : Claim) × SaysClaim content.names constraint claim × IsClaim model decisions (shown content) claim

  later_justified : (posted later : List Constraint) → All says_asked later → IsJustified model decisions tables posted content → IsJustified model decisions tables (posted ++ later) content
  later_justified posted [] all is = subst (λ (list : List Constraint). IsJustified model decisions tables list content) (sym (append-nil posted)) is
  later_justified posted (constraint ∷ later) all is =
      let first = All-head says_asked constraint later all in
      subst (λ (list : List Constraint). IsJustified model decisions tables list content) (append_assoc posted (constraint ∷ []) later)
      (later_justified (posted ++ constraint ∷ []) later (All-tail says_asked constraint later all)
      (posting_justified model decisions tables posted content is constraint first.0 first.1 (inl first.2)))

  -- what is claimed may be posted
  pub claims_justified : (Said : Claim → Type 0) (old new : List Constraint) → PostsClaims content.names Said old new
      → ((claim : Claim) → Said claim → IsClaim model decisions (shown content) claim)
      → IsJustified model decisions tables old content → IsJustified model decisions tables new content
  claims_justified Said old new posts claimed is =
      subst (λ (list : List Constraint). IsJustified model decisions tables list content) (sym posts.behind)
      (later_justified old posts.later (All-weaker (λ constraint. (claim : Claim) × SaysClaim content.names constraint claim × Said claim) says_asked
      (λ constraint says. (says.0, says.1, claimed says.0 says.2)) posts.later posts.each) is)

-- ---- what an item says

module _ (model : Model) (content : Content) (context : Context) (item : Item) where
  -- what it asserts, where all that it is about counts
  pub posts_counted : (old new : Stored) (result : Result (Unit {0}) AllocError)
      → ((decisions : List Decision) → AreTokenStates model decisions (snapshot_of old) → ItemCounts model (IsTaken decisions) context item)
      → OnOk result (PostsClaims content.names (Asserts context item) old.net.constraints new.net.constraints)
      → OnOk result ((decisions : List Decision) → AreTokenStates model decisions (snapshot_of old)
      → PostsClaims content.names (ItemSays model (IsTaken decisions) context item) old.net.constraints new.net.constraints)
  posts_counted old new (Ok done) counts posts = λ decisions states.
      posts_same content.names (Asserts context item) (ItemSays model (IsTaken decisions) context item) old.net.constraints new.net.constraints
      (λ claim asserts. (what_counts_is_said model decisions context item claim).1 (asserts, counts decisions states))
      (λ claim says. ((what_counts_is_said model decisions context item claim).0 says).0) posts
  posts_counted old new (Err none) counts posts = tt

  -- and else nothing
  pub posts_uncounted : (decisions : List Decision) (posted : List Constraint) → (ItemCounts model (IsTaken decisions) context item → ⊥)
      → PostsClaims content.names (ItemSays model (IsTaken decisions) context item) posted posted
  posts_uncounted decisions posted no_count = posts_nothing content.names (ItemSays model (IsTaken decisions) context item) posted
      (λ claim says. no_count ((what_counts_is_said model decisions context item claim).0 says).1)
