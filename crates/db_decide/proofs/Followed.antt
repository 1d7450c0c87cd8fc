-- A token that is taken: what begins to count is posted, and its parts are due.
use Rattle.std.proofs.Common.{◌≡◌, ℕ, List, [], ◌∷◌, ◌++◌, Some, ◌⊎◌, inl, inr, sym, ◌∙◌, subst, arith}
use Rattle.std.specs.Prelude.{Contains, slice_get}
use Rattle.std.proofs.lemmas.List.Elements.{All-contains, Contains-append_left}
use Rattle.eu_name.specs.declared.name.Part.{Part}
use Rattle.eu_name.specs.declared.name.Part.TheVariants.{Object}
use Rattle.eu_name.specs.declared.name.TokenName.{TokenName}
use Rattle.eu_name.specs.declared.name.VarName.TheVariants.{Token}
use Rattle.model_core.specs.declared.decision.Decision.{Decision}
use Rattle.model_core.specs.declared.decision.Decision.TheVariants.{Activate, Merge, Order}
use Rattle.model_core.specs.declared.model.Model.{Model}
use Rattle.model_core.specs.Blocks.{TokenBlock, IsBlock, direct, OfItem, block_at}
use Rattle.model_core.specs.Entries.{Entries}
use Rattle.model_core.specs.Lawful.{IsLawful}
use Rattle.model_core.specs.State.{IsBlockOf}
use Rattle.model_core.specs.Tokens.{IsRejectable}
use Rattle.constraint_net.specs.declared.constraint.Constraint as posts
use Rattle.plan_defs.specs.Claims.{Claim, IsClaim, HasPart, Posts, equal, part_of}
use Rattle.plan_defs.specs.Closure.{IsRespected}
use Rattle.plan_defs.specs.Laws.{HaveToTurn}
use Rattle.plan_defs.specs.Refusals.{IsKnown}
use Rattle.eu_name.proofs.Members.{get_from_contains, contains_from_get}
use Rattle.db_refine.specs.Claims.{IsPostedIn}
use Rattle.model_core.specs.Content.{Content, shown}
use Rattle.db_refine.proofs.Showing.{stands_from}
use Rattle.db_refine.specs.Coming.{TakesToken, IsTakenUp}
use Rattle.db_refine.specs.Progress.{IsUnfolded, IsDue, IsTurnFollowed}
use Rattle.db_refine.proofs.Naming.{named_there}
use Rattle.db_store.specs.Stores.{Stored}
use Rattle.db_posting.specs.Origins.{content_now}
use Rattle.db_posting.specs.Posted.{PostsClaims}
use Rattle.db_posting.specs.Tables.{HaveTables}
use Rattle.db_posting.proofs.Storing.{with_constraints}
use Rattle.db_posting.specs.Underway.{IsStoreUnderway}
use Rattle.db_decide.specs.RootItems.{SaysAnywhere, SaysOfRejectable, CanPostItems}
use Rattle.db_decide.proofs.Claiming.{said_is_posted, claims_underway}
use Rattle.db_decide.proofs.Counted.{problem_begun, blocks_begun, branches_begun}
use Rattle.db_decide.proofs.Longer.{due_longer, taken_underway}

-- what was posted still is
pub posted_on : (content : Content) (Said : Claim → Type 0) (old new : List posts.Constraint) → PostsClaims content.names Said old new → (claim : Claim) → IsPostedIn content.names old claim
    → IsPostedIn content.names new claim
posted_on content Said old new says claim is =
    subst (λ (list : List posts.Constraint). IsPostedIn content.names list claim) (sym says.behind) (is.0, Contains-append_left old says.later is.0 is.1, is.2)

-- of a store that is underway items can be posted
pub can_from : (model : Model) (followed decisions : List Decision) (stored : Stored) (unfolded : ℕ) (due : List ℕ) → IsLawful model → HaveTables model stored.net.tables
    → IsStoreUnderway model followed decisions stored unfolded due → CanPostItems model stored.net.tables (content_now stored) unfolded
can_from model followed decisions stored unfolded due lawful tables under =
    let content = content_now stored in
    let is = under.justified.is_content in
    let misses = under.complete in
    record {
      have_tables = tables;
      is_content = is;
      roots = misses.roots;
      there = λ block entries item is_open is_block stands. (
          let at = get_from_contains (direct entries) (OfItem item) stands in (
            (All-contains (IsBlockOf model (shown content)) content.blocks block is.blocks (contains_from_get content.blocks is_open.0 block is_open.1)).0,
            named_there model followed stored.net.constraints content unfolded due lawful is misses is_open.0 block entries is_open.1 (let below = is_open.2 in omega (arith, below)) is_block
                (λ slot there. misses.slots block entries slot is_open is_block there) at.0 (OfItem item) at.1,
          ));
    }

module _ (model : Model) (lawful : IsLawful model) (decisions : List Decision) (decision : Decision) (token : TokenName) (only : (other : TokenName) → TakesToken decision other → other ≡ token)
    (stored : Stored) (unfolded : ℕ) (under : IsStoreUnderway model decisions (decisions ++ decision ∷ []) stored unfolded [])
    (others : (block : TokenBlock) → IsUnfolded (content_now stored) unfolded block → block.token ≡ token → ⊥)
    (constraints : List posts.Constraint)
    (says : PostsClaims (content_now stored).names (SaysOfRejectable model token (content_now stored) unfolded (decisions ++ decision ∷ [])) stored.net.constraints constraints) where
  abbrev longer : List Decision
  longer = decisions ++ decision ∷ []

  abbrev content : Content
  content = content_now stored

  claimed : (claim : Claim) → SaysOfRejectable model token content unfolded longer claim → IsClaim model longer (shown content) claim
  claimed claim (rejectable, inl (item, stands, said)) = inl (record { item = item; stands = stands; says = said.says })
  claimed claim (rejectable, inr (block, is_open, said)) = inr (inl (record {
    block = block;
    entries = said.entries;
    item = said.item;
    is_open = contains_from_get content.blocks is_open.0 block is_open.1;
    has_block = said.has_block;
    stands = said.stands;
    says = said.says.says;
  }))

  begun : IsStoreUnderway model decisions longer (with_constraints stored constraints) unfolded []
  begun = claims_underway model decisions longer (SaysOfRejectable model token content unfolded longer) stored constraints says claimed unfolded [] under

  module _ (due : List ℕ) (parts : (part : Part) (number : ℕ) → slice_get content.names number ≡ Some (Token token part) → Contains due number)
      (known : IsKnown (shown content) decision) (granted : IsRespected decision (shown content))
      (rules : (one : TokenName) (rule : ℕ) (entries : Entries) → decision ≡ Activate one → IsBlock model (block_at one rule []) entries → Contains content.blocks (block_at one rule []))
      (merges : (one target : TokenName) (part : Part) → decision ≡ Merge one target → HasPart model one part
      → IsPostedIn content.names stored.net.constraints (equal (part_of one part) (part_of target part)))
      (orders : (one other : TokenName) → decision ≡ Order one other → ⊥) (no_posting : (claim : Claim) → Posts decision claim → ⊥) where
    more : IsStoreUnderway model decisions longer (with_constraints stored constraints) unfolded due
    more = due_longer model decisions longer (with_constraints stored constraints) unfolded due begun

    said : IsRejectable model token → (claim : Claim) → SaysAnywhere model longer token.root content unfolded claim → IsPostedIn content.names constraints claim
    said rejectable claim is = said_is_posted content.names (SaysOfRejectable model token content unfolded longer) stored.net.constraints constraints says claim (rejectable, is)

    -- an object of the token is due
    object_due : (one : TokenName) → one ≡ token → (number : ℕ) → slice_get content.names number ≡ Some (Token one Object) → IsDue content due (Token one Object)
    object_due one same number at = (number, at, parts Object number (subst (λ (t : TokenName). slice_get content.names number ≡ Some (Token t Object)) same at))

    turned : (one other : TokenName) → (one ≡ token) ⊎ (other ≡ token) → HaveToTurn model longer (shown content) one other → IsTurnFollowed constraints content due one other
    turned one other (inl same) turn =
        let at = stands_from content.names content.domains (Token one Object) turn.share.one_on.0 turn.share.one_on.1 in
        inr (inl (inl (object_due one same at.number at.named)))
    turned one other (inr same) turn =
        let at = stands_from content.names content.domains (Token other Object) turn.share.other_on.0 turn.share.other_on.1 in
        inr (inr (inl (object_due other same at.number at.named)))

    is_it : (one other token' : TokenName) → decision ≡ Activate token' → (one ≡ token') ⊎ (other ≡ token') → (one ≡ token) ⊎ (other ≡ token)
    is_it one other token' is (inl same) = inl (same ∙ only token' (inl is))
    is_it one other token' is (inr same) = inr (same ∙ only token' (inl is))

    taken_up : IsTakenUp model decisions decision constraints content unfolded due
    taken_up = record {
      known = known;
      granted = granted;
      rules = rules;
      branches = λ block entries guard then otherwise name is_open is stands names begins.
          branches_begun model decisions decision token only constraints content unfolded due more.complete others lawful more.justified.is_content parts block entries is_open is;
      of_problem = problem_begun model decisions decision token only constraints content unfolded due more.complete others said;
      of_blocks = blocks_begun model decisions decision token only constraints content unfolded due more.complete others said;
      of_merge = λ one target part is has. posted_on content (SaysOfRejectable model token content unfolded longer) stored.net.constraints constraints says _ (merges one target part is has);
      of_order = λ one other is. absurd (orders one other is);
      of_posting = λ claim posts. absurd (no_posting claim posts);
      in_turn = λ token' one other is which turn. turned one other (is_it one other token' is which) turn;
    }

    pub followed_up : IsStoreUnderway model longer longer (with_constraints stored constraints) unfolded due
    followed_up = taken_underway model decisions decision (with_constraints stored constraints) unfolded due more taken_up
