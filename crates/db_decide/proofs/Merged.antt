-- A token that is merged.
use Rattle.std.proofs.Common.{◌≡◌, ℕ, ◌≤◌, List, [], ◌∷◌, ◌++◌, length, Some, inl, inr, refl, sym, ap, ◌∙◌, subst, arith}
use Rattle.std.specs.Prelude.{Contains, slice_get}
use Rattle.std.proofs.lemmas.List.Elements.{Contains-push}
use Rattle.eu_name.specs.declared.name.Part.{Part}
use Rattle.eu_name.specs.declared.name.TokenName.{TokenName}
use Rattle.eu_name.specs.declared.name.VarName.TheVariants.{Token}
use Rattle.model_core.specs.declared.decision.Decision.{Decision}
use Rattle.model_core.specs.declared.decision.Decision.TheVariants.{Merge}
use Rattle.model_core.specs.declared.model.Model.{Model}
use Rattle.model_core.specs.declared.view.TokenState.{TokenState}
use Rattle.model_core.specs.declared.view.TokenState.TheVariants.{Merged}
use Rattle.model_core.specs.Blocks.{TokenBlock}
use Rattle.model_core.specs.Decided.{IsActivated}
use Rattle.model_core.specs.Lawful.{IsLawful}
use Rattle.token_store.specs.Orders.{name_at}
use Rattle.token_store.specs.Tokens.{tokens_now, with_state, IsNamedAt}
use Rattle.constraint_net.specs.declared.constraint.Constraint.{Constraint}
use Rattle.plan_defs.specs.Claims.{Claim, IsClaim, HasPart, equal, part_of}
use Rattle.plan_defs.specs.Refusals.{IsKnown, HaveSamePredicate}
use Rattle.eu_name.proofs.Members.{contains_from_get}
use Rattle.db_refine.specs.Claims.{IsPostedIn}
use Rattle.model_core.specs.Content.{Content, shown}
use Rattle.db_refine.specs.Progress.{IsUnfolded}
use Rattle.db_store.specs.Stores.{Stored, snapshot_of, IsSnapshot}
use Rattle.db_posting.specs.Counting.{AreTokenStates}
use Rattle.db_posting.specs.Origins.{content_now}
use Rattle.db_posting.specs.Posted.{PostsClaims, OnlyPosts}
use Rattle.db_posting.specs.Tables.{HaveTables}
use Rattle.db_posting.proofs.Storing.{with_constraints}
use Rattle.db_posting.specs.Underway.{IsStoreUnderway}
use Rattle.db_decide.specs.Merging.{ClaimsToBeSame}
use Rattle.db_decide.specs.RootItems.{SaysOfRejectable, PostsSaid, CanPostItems}
use Rattle.db_decide.specs.TakingUp.{MayFollow, IsDueAfter}
use Rattle.db_decide.proofs.Claiming.{said_is_posted, claims_underway}
use Rattle.db_decide.proofs.Followed.{can_from, followed_up}
use Rattle.db_decide.proofs.Longer.{DecidesOf}
use Rattle.db_decide.proofs.Placing.{name_is}
use Rattle.db_decide.proofs.Saying.{can_kept}
use Rattle.db_decide.proofs.Stating.{stated, content_stated, stated_underway}

decides_only : (token target other : TokenName) → DecidesOf (Merge token target) other → other ≡ token
decides_only token target other (inl (inl is)) = absurd (cc)
decides_only token target other (inl (inr (into, is))) = cc
decides_only token target other (inr is) = absurd (cc)

module _ (model : Model) (decisions : List Decision) (token target : TokenName) (old : Stored) (sound : IsSnapshot (snapshot_of old)) (place into : ℕ)
    (named : IsNamedAt (tokens_now old.past) place token) (named_target : IsNamedAt (tokens_now old.past) into target)
    (may : MayFollow model decisions old (Merge token target)) where
  abbrev longer : List Decision
  longer = decisions ++ Merge token target ∷ []

  abbrev one : Stored
  one = stated model old sound place (Merged into)

  abbrev content : Content
  content = content_now one

  same : content ≡ content_now old
  same = content_stated model old sound place (Merged into)

  started : IsStoreUnderway model decisions longer one (length old.blocks) []
  started = stated_underway model old sound place (Merged into) decisions (Merge token target) token named may.undecided (decides_only token target)
      (target, named_target, Contains-push decisions (Merge token target)) (length old.blocks) [] may.rest.underway

  pub merge_started : (store : Stored) → store ≡ record old { past = with_state (tokens_now old.past) place (Merged into) ∷ old.past }
      → IsStoreUnderway model decisions longer store (length old.blocks) []
  merge_started store is = subst (λ (s : Stored). IsStoreUnderway model decisions longer s (length old.blocks) []) (sym is) started

  merging : name_at content.tokens place ≡ token
  merging = sym (name_is one.past place token (subst (λ (c : Content). slice_get c.tokens place ≡ Some token) (sym same) named))

  merged_into : name_at content.tokens into ≡ target
  merged_into = sym (name_is one.past into target (subst (λ (c : Content). slice_get c.tokens into ≡ Some target) (sym same) named_target))

  others : (block : TokenBlock) → IsUnfolded content (length old.blocks) block → block.token ≡ token → ⊥
  others block is_open of_it =
      let before = subst (λ (c : Content). IsUnfolded c (length old.blocks) block) same is_open in
      let opened = may.rest.underway.justified.blocks block (contains_from_get (content_now old).blocks before.0 block before.1) in
      may.undecided (inr (inl (inl (subst (IsActivated decisions) of_it opened.1.is_open.activated))))

  claimed : (claim : Claim) → ClaimsToBeSame model token target claim → IsClaim model longer (shown content) claim
  claimed claim (part, has_part, says) = inr (inr (inr (inl (record {
    token = token;
    target = target;
    part = part;
    merged = Contains-push decisions (Merge token target);
    has_part = has_part;
    says = says;
  }))))

  module _ (two three : List Constraint) (shares : PostsClaims content.names (ClaimsToBeSame model (name_at content.tokens place) (name_at content.tokens into)) one.net.constraints two) where
    shared : PostsClaims content.names (ClaimsToBeSame model token target) one.net.constraints two
    shared = subst (λ (t : TokenName). PostsClaims content.names (ClaimsToBeSame model t target) one.net.constraints two) merging
        (subst (λ (t : TokenName). PostsClaims content.names (ClaimsToBeSame model (name_at content.tokens place) t) one.net.constraints two) merged_into shares)

    sharing : IsStoreUnderway model decisions longer (with_constraints one two) (length old.blocks) []
    sharing = claims_underway model decisions longer (ClaimsToBeSame model token target) one two shared claimed (length old.blocks) [] started

    posted : (from to : TokenName) (part : Part) → Merge token target ≡ Merge from to → HasPart model from part → IsPostedIn content.names two (equal (part_of from part) (part_of to part))
    posted from to part is has =
        let sources : token ≡ from = cc in
        let targets : target ≡ to = cc in
        subst (λ (t : TokenName). IsPostedIn content.names two (equal (part_of from part) (part_of t part))) targets
        (subst (λ (t : TokenName). IsPostedIn content.names two (equal (part_of t part) (part_of target part))) sources
        (said_is_posted content.names (ClaimsToBeSame model token target) one.net.constraints two shared (equal (part_of token part) (part_of target part))
        (part, subst (λ (t : TokenName). HasPart model t part) (sym sources) has, refl)))

    merged : IsLawful model → PostsClaims content.names (SaysOfRejectable model token content (length old.blocks) longer) two three → (due : List ℕ)
        → ((part : Part) (number : ℕ) → slice_get content.names number ≡ Some (Token token part) → Contains due number)
        → IsStoreUnderway model longer longer (with_constraints one three) (length old.blocks) due
    merged lawful says due parts =
        followed_up model lawful decisions (Merge token target) token (λ other takes. decides_only token target other (inl takes)) (with_constraints one two) (length old.blocks) sharing
        others three says due parts (subst (λ (c : Content). IsKnown (shown c) (Merge token target)) (sym same) may.known) tt (λ t rule entries is has. absurd (cc)) posted (λ first second is. cc) (λ claim posts. posts)

  pub merged_up : IsLawful model → (first second third : Stored) → first ≡ record old { past = with_state (tokens_now old.past) place (Merged into) ∷ old.past } → OnlyPosts first second
      → PostsClaims (content_now first).names (ClaimsToBeSame model (name_at (content_now first).tokens place) (name_at (content_now first).tokens into)) first.net.constraints second.net.constraints
      → OnlyPosts second third → PostsSaid model (SaysOfRejectable model token (content_now second) (length old.blocks)) second third
      → (due : List ℕ) → IsDueAfter (Merge token target) third due → IsStoreUnderway model longer longer third (length old.blocks) due
  merged_up lawful first second third is only shares next says due after =
      let to_second : second ≡ with_constraints one second.net.constraints = only ∙ ap (λ (s : Stored). with_constraints s second.net.constraints) is in
      let to_third : third ≡ with_constraints one third.net.constraints = next ∙ ap (λ (s : Stored). with_constraints s third.net.constraints) to_second in
      let shares_one = subst (λ (s : Stored). PostsClaims (content_now s).names (ClaimsToBeSame model (name_at (content_now s).tokens place) (name_at (content_now s).tokens into))
      s.net.constraints second.net.constraints) is shares in
      let states = subst (λ (s : Stored). AreTokenStates model longer (snapshot_of s)) (sym to_second) (sharing second.net.constraints third.net.constraints shares_one).states in
      let says_one = subst (λ (s : Stored). PostsClaims (content_now s).names (SaysOfRejectable model token (content_now s) (length old.blocks) longer)
      second.net.constraints third.net.constraints) to_second (says longer states) in
      subst (λ (s : Stored). IsStoreUnderway model longer longer s (length old.blocks) due) (sym to_third)
      (merged second.net.constraints third.net.constraints shares_one lawful says_one due
      (λ part number at. after.parts token part number (inr (target, refl))
      (subst (λ (s : Stored). slice_get (content_now s).names number ≡ Some (Token token part)) (sym to_third) at)))

  pub merge_alike : (first : Stored) → first ≡ record old { past = with_state (tokens_now old.past) place (Merged into) ∷ old.past }
      → HaveSamePredicate model (name_at (content_now first).tokens place) (name_at (content_now first).tokens into)
  merge_alike first is =
      subst (λ (s : Stored). HaveSamePredicate model (name_at (content_now s).tokens place) (name_at (content_now s).tokens into)) (sym is)
      (subst (λ (t : TokenName). HaveSamePredicate model (name_at content.tokens place) t) (sym merged_into)
      (subst (λ (t : TokenName). HaveSamePredicate model t target) (sym merging) (may.alike token target refl)))

  -- items can be posted behind the parts
  pub merge_can : IsLawful model → HaveTables model old.net.tables → (first second : Stored) → first ≡ record old { past = with_state (tokens_now old.past) place (Merged into) ∷ old.past }
      → OnlyPosts first second → (unfolded : ℕ) → unfolded ≡ length old.blocks → CanPostItems model second.net.tables (content_now second) unfolded
  merge_can lawful tables first second is only unfolded count =
      let have = subst (λ (s : Stored). HaveTables model s.net.tables) (sym is) tables in
      subst (λ (n : ℕ). CanPostItems model second.net.tables (content_now second) n) (sym count)
      (can_kept model (length old.blocks) first second only (can_from model decisions longer first (length old.blocks) [] lawful have (merge_started first is)))

pub merge_within : (old first second : Stored) (place : ℕ) (state : TokenState) → first ≡ record old { past = with_state (tokens_now old.past) place state ∷ old.past }
    → OnlyPosts first second → (unfolded : ℕ) → unfolded ≡ length old.blocks → unfolded ≤ length second.blocks
merge_within old first second place state is only unfolded count =
    let one : length first.blocks ≡ length old.blocks = ap (λ (s : Stored). length s.blocks) is in
    let two : length second.blocks ≡ length first.blocks = ap (λ (s : Stored). length s.blocks) only in
    omega (arith, one, two, count)
