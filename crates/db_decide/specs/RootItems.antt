-- What begins to count with a rejectable root that is taken.
use Rattle.std.specs.Prelude.{◌≡◌, ◌⊎◌, ℕ, List, Some, slice_get, Contains}
use Rattle.eu_name.specs.declared.name.TokenName.{TokenName}
use Rattle.model_core.specs.declared.decision.Decision.{Decision}
use Rattle.model_core.specs.declared.item.Item.{Item}
use Rattle.model_core.specs.declared.item.Item.TheVariants.{Constraint, Relation}
use Rattle.model_core.specs.declared.item.Term.{Term}
use Rattle.model_core.specs.declared.item.Term.TheVariants.{Root}
use Rattle.model_core.specs.declared.model.Model.{Model}
use Rattle.model_core.specs.declared.rule.Entry.{Entry}
use Rattle.model_core.specs.declared.rule.Entry.TheVariants as kept
use Rattle.model_core.specs.Blocks.{TokenBlock, IsBlock, direct, OfItem}
use Rattle.model_core.specs.Decided.{IsTaken}
use Rattle.model_core.specs.Entries.{Entries}
use Rattle.model_core.specs.Tokens.{IsRejectable}
use Rattle.narrow_core.specs.declared.field.Field.{Field}
use Rattle.plan_defs.specs.Claims.{Claim, ItemSays}
use Rattle.plan_defs.specs.Terms.{Context, InProblem, InRule}
use Rattle.model_core.specs.Content.{Content, IsContent}
use Rattle.db_refine.specs.Coming.{IsItemThere}
use Rattle.db_refine.specs.Progress.{IsUnfolded}
use Rattle.db_store.specs.Stores.{Stored, snapshot_of}
use Rattle.db_posting.specs.Counting.{AreTokenStates, AreRootsThere}
use Rattle.db_posting.specs.Origins.{content_now}
use Rattle.db_posting.specs.Postable.{CanPostItem, IsItemNamed}
use Rattle.db_posting.specs.Posted.{PostsClaims}
use Rattle.db_posting.specs.Tables.{HaveTables}

-- the term is a part of the root of this number
abbrev pub IsPartOfRoot : ℕ → Term → Type 0
IsPartOfRoot number (Root other part) = other ≡ number
IsPartOfRoot number term = ⊥

-- one of the terms is
abbrev pub NamePartOfRoot : ℕ → List Term → Type 0
NamePartOfRoot number terms = (term : Term) × Contains terms term × IsPartOfRoot number term

-- the item is about a part of that root
abbrev pub IsAboutRoot : ℕ → Item → Type 0
IsAboutRoot number (Constraint kind terms) = NamePartOfRoot number terms
IsAboutRoot number (Relation relation slot) = ⊥

module _ (model : Model) (decisions : List Decision) (root : ℕ) where
  -- the item, which is about the root, says the claim where it stands
  pub record SaysOfRoot (context : Context) (item : Item) (claim : Claim) : Type 0 where
    pub about : IsAboutRoot root item
    pub says : ItemSays model (IsTaken decisions) context item claim

  -- one of these items does
  abbrev pub SaysAmong : Context → List Item → Claim → Type 0
  SaysAmong context items claim = (item : Item) × Contains items item × SaysOfRoot context item claim

  -- the entry of a block is such an item
  abbrev pub EntrySays : Context → Entry → Claim → Type 0
  EntrySays context entry claim = (item : Item) × (entry ≡ kept.Item item) × SaysOfRoot context item claim

  -- one of the entries is
  abbrev pub EntriesSay : Context → List Entry → Claim → Type 0
  EntriesSay context entries claim = (entry : Entry) × Contains entries entry × EntrySays context entry claim

  -- one in the block does
  pub record SaysInBlock (block : TokenBlock) (claim : Claim) : Type 0 where
    pub entries : Entries
    pub has_block : IsBlock model block entries
    pub item : Item
    pub stands : Contains (direct entries) (OfItem item)
    pub says : SaysOfRoot (InRule block.token block.rule) item claim

  -- one in the block of this number does
  abbrev pub SaysInBlockAt : Content → ℕ → Claim → Type 0
  SaysInBlockAt content number claim =
      (block : TokenBlock) × (slice_get content.blocks number ≡ Some block) × SaysInBlock block claim

  -- one in one of the first so many blocks does
  abbrev pub SaysInBlocks : Content → ℕ → Claim → Type 0
  SaysInBlocks content unfolded claim = (block : TokenBlock) × IsUnfolded content unfolded block × SaysInBlock block claim

  -- one of the problem or in one of those blocks does
  abbrev pub SaysAnywhere : Content → ℕ → Claim → Type 0
  SaysAnywhere content unfolded claim = SaysAmong InProblem model.problem.items claim ⊎ SaysInBlocks content unfolded claim

-- so it is of a token, if it is a rejectable root
abbrev pub SaysOfRejectable : Model → TokenName → Content → ℕ → List Decision → Claim → Type 0
SaysOfRejectable model token content unfolded decisions claim =
    IsRejectable model token × SaysAnywhere model decisions token.root content unfolded claim

-- behind the constraints that were there come those that say just what is said by whatever decisions the states of tokens show
abbrev pub PostsSaid : Model → (List Decision → Claim → Type 0) → Stored → Stored → Type 0
PostsSaid model Said old new =
    (decisions : List Decision) → AreTokenStates model decisions (snapshot_of old)
    → PostsClaims (content_now old).names (Said decisions) old.net.constraints new.net.constraints

-- the entry can be posted where it stands, if it is an item
abbrev pub CanPostEntry : List Field → Content → Context → Entry → Type 0
CanPostEntry tables content context entry =
    (item : Item) → entry ≡ kept.Item item → CanPostItem tables context item × IsItemNamed content context item

-- items of the model can be posted: the content is one of the model, with each root and all that the items of the first so many
-- blocks are about, and there is a table for each field
pub record CanPostItems (model : Model) (tables : List Field) (content : Content) (unfolded : ℕ) : Type 0 where
  pub have_tables : HaveTables model tables
  pub is_content : IsContent model content
  pub roots : AreRootsThere model content
  pub there : (block : TokenBlock) (entries : Entries) (item : Item)
      → IsUnfolded content unfolded block → IsBlock model block entries → Contains (direct entries) (OfItem item)
      → Contains content.tokens block.token × IsItemThere content block.token block.rule item
