-- What is posted of items that are about a root, one after another.
use Rattle.std.proofs.Common.{◌≡◌, ℕ, ◌+◌, ◌<◌, ◌≤◌, List, [], ◌∷◌, ◌++◌, length, take, get_or, Some, ◌⊎◌, inl, inr, refl, sym, ◌∙◌, subst, arith}
use Rattle.std.specs.Prelude.{All, Contains, slice_get}
use Rattle.std.proofs.lemmas.Bool.{cases_lt}
use Rattle.std.proofs.lemmas.List.{take_more, take_all}
use Rattle.std.proofs.lemmas.List.Elements.{All-contains, Contains-get_or, Contains-append_left, Contains-push, Contains-push_cases}
use Rattle.eu_name.specs.declared.name.TokenName.{TokenName}
use Rattle.model_core.specs.declared.decision.Decision.{Decision}
use Rattle.model_core.specs.declared.item.Item.{Item}
use Rattle.model_core.specs.declared.model.Model.{Model}
use Rattle.model_core.specs.declared.rule.Entry.{Entry}
use Rattle.model_core.specs.declared.rule.Entry.TheVariants as kept
use Rattle.model_core.specs.Decided.{IsTaken}
use Rattle.model_core.specs.Block.{plain_entries}
use Rattle.model_core.specs.Blocks.{TokenBlock, IsBlock, direct, OfSlot, OfLocal, OfItem, OfBranch}
use Rattle.model_core.specs.Entries.{Entries}
use Rattle.model_core.specs.Kinds.{OfProblem, OfRule}
use Rattle.model_core.specs.Lawful.{IsLawful, IsLawfulItem}
use Rattle.model_core.specs.Standing.{StandsAt}
use Rattle.model_core.specs.Tokens.{IsRejectable}
use Rattle.narrow_core.specs.declared.field.Field.{Field}
use Rattle.token_store.specs.Tokens.{tokens_now}
use Rattle.plan_defs.specs.Claims.{Claim, ItemSays}
use Rattle.plan_defs.specs.Terms.{Context, InProblem, InRule}
use Rattle.eu_name.proofs.Members.{get_same, get_from_contains, contains_from_get}
use Rattle.plan_defs.proofs.Members.{all_from_get}
use Rattle.eu_name.proofs.Ordered.{contains_head, contains_later, contains_cases, contains_none}
use Rattle.model_core.specs.Content.{Content, IsContent}
use Rattle.db_refine.specs.Progress.{IsUnfolded}
use Rattle.model_core.proofs.Blocks.{block_once}
use Rattle.model_core.proofs.Lawful.{rule_lawful}
use Rattle.db_store.specs.Stores.{Stored, snapshot_of}
use Rattle.db_posting.specs.Counting.{AreTokenStates, AreRootsThere}
use Rattle.db_posting.specs.declared.origin.Origin.{Origin}
use Rattle.db_posting.specs.Origins.{content_now, origin_context, IsOriginBelow}
use Rattle.db_posting.specs.Postable.{CanPostItem, IsItemNamed}
use Rattle.db_posting.specs.Posted.{PostsClaims, OnlyPosts}
use Rattle.db_posting.specs.Tables.{HaveTables}
use Rattle.db_posting.proofs.Allowing.{lawful_items_can_be_posted}
use Rattle.db_posting.proofs.Present.{what_is_there_is_named, items_of_problem_are_named}
use Rattle.db_posting.proofs.Said.{posts_nothing, posts_same, posts_both}
use Rattle.db_decide.specs.RootItems.{IsAboutRoot, SaysOfRoot, SaysAmong, EntrySays, EntriesSay, SaysInBlock, SaysInBlockAt, SaysInBlocks, SaysAnywhere, SaysOfRejectable}
use Rattle.db_decide.specs.RootItems.{PostsSaid, CanPostEntry, CanPostItems}

-- constraints that come leave the states of tokens
pub states_kept : (model : Model) (decisions : List Decision) (old new : Stored) → OnlyPosts old new → AreTokenStates model decisions (snapshot_of old)
    → AreTokenStates model decisions (snapshot_of new)
states_kept model decisions old new only are =
    subst (λ (stored : Stored). AreTokenStates model decisions (snapshot_of stored)) (sym only) (record { states = are.states; rejected = are.rejected })

-- nothing is said
pub said_nothing : (model : Model) (Said : List Decision → Claim → Type 0) (stored : Stored)
    → ((decisions : List Decision) → AreTokenStates model decisions (snapshot_of stored) → (claim : Claim) → Said decisions claim → ⊥) → PostsSaid model Said stored stored
said_nothing model Said stored none = λ decisions states.
    posts_nothing (content_now stored).names (Said decisions) stored.net.constraints (none decisions states)

-- the same, said otherwise
pub said_same : (model : Model) (One Other : List Decision → Claim → Type 0) (old new : Stored) → ((decisions : List Decision) (claim : Claim) → One decisions claim → Other decisions claim)
    → ((decisions : List Decision) (claim : Claim) → Other decisions claim → One decisions claim) → PostsSaid model One old new → PostsSaid model Other old new
said_same model One Other old new there back posts = λ decisions states.
    posts_same (content_now old).names (One decisions) (Other decisions) old.net.constraints new.net.constraints (there decisions) (back decisions) (posts decisions states)

-- one thing and then another
pub said_both : (model : Model) (One Other : List Decision → Claim → Type 0) (old mid new : Stored) → OnlyPosts old mid → PostsSaid model One old mid → PostsSaid model Other mid new
    → PostsSaid model (λ decisions claim. One decisions claim ⊎ Other decisions claim) old new
said_both model One Other old mid new only first second = λ decisions states.
    let next = subst (λ (stored : Stored). PostsClaims (content_now stored).names (Other decisions) mid.net.constraints new.net.constraints) only
    (second decisions (states_kept model decisions old mid only states)) in
    posts_both (content_now old).names (One decisions) (Other decisions) old.net.constraints mid.net.constraints new.net.constraints (first decisions states) next

module _ {X : Type 0} (model : Model) (P : List Decision → X → Claim → Type 0) where
  -- one of these is said to claim it
  abbrev pub SaidOf : List X → List Decision → Claim → Type 0
  SaidOf xs decisions claim = (y : X) × Contains xs y × P decisions y claim

  pub said_none : (stored : Stored) → PostsSaid model (SaidOf []) stored stored
  said_none stored = said_nothing model (SaidOf []) stored (λ decisions states claim said. contains_none said.0 said.1)

  module _ (xs : List X) (k : ℕ) (x : X) (below : k < length xs) (is : x ≡ get_or xs k x) where
    more : take (k + 1) xs ≡ take k xs ++ get_or xs k x ∷ []
    more = take_more xs k x below

    joined : (decisions : List Decision) (claim : Claim) → SaidOf (take k xs) decisions claim ⊎ P decisions x claim → SaidOf (take (k + 1) xs) decisions claim
    joined decisions claim (inl (y, there, says)) =
        (y, subst (λ (list : List X). Contains list y) (sym more) (Contains-append_left (take k xs) (get_or xs k x ∷ []) y there), says)
    joined decisions claim (inr says) = (
      get_or xs k x,
      subst (λ (list : List X). Contains list (get_or xs k x)) (sym more) (Contains-push (take k xs) (get_or xs k x)),
      subst (λ (y : X). P decisions y claim) is says,
    )

    parted : (decisions : List Decision) (claim : Claim) → SaidOf (take (k + 1) xs) decisions claim → SaidOf (take k xs) decisions claim ⊎ P decisions x claim
    parted decisions claim (y, there, says) = elim (Contains-push_cases (take k xs) (get_or xs k x) y (subst (λ (list : List X). Contains list y) more there)) [
      | inl before ↦ inl (y, before, says)
      | inr same ↦ inr (subst (λ (z : X). P decisions z claim) (sym same ∙ sym is) says)
    ]

    pub said_more : (old mid new : Stored) → OnlyPosts old mid → PostsSaid model (SaidOf (take k xs)) old mid → PostsSaid model (λ decisions. P decisions x) mid new
        → PostsSaid model (SaidOf (take (k + 1) xs)) old new
    said_more old mid new only first second =
        said_same model (λ decisions claim. SaidOf (take k xs) decisions claim ⊎ P decisions x claim) (SaidOf (take (k + 1) xs)) old new joined parted
        (said_both model (SaidOf (take k xs)) (λ decisions. P decisions x) old mid new only first second)

  pub said_of_all : (xs : List X) (k : ℕ) → length xs ≤ k → (old new : Stored) → PostsSaid model (SaidOf (take k xs)) old new → PostsSaid model (SaidOf xs) old new
  said_of_all xs k past old new posts = subst (λ (list : List X). PostsSaid model (SaidOf list) old new) (take_all k xs past) posts

-- ---- the entries of a block

pub stands_kept : (entries : List Entry) (item : Item) → Contains (direct (plain_entries entries)) (OfItem item) → Contains entries (kept.Item item)
stands_kept [] item there = absurd (contains_none (OfItem item) there)
stands_kept (kept.Item other ∷ entries) item there = elim (contains_cases (OfItem other) (OfItem item) (direct (plain_entries entries)) there) [
  | inl same ↦ (let e : other ≡ item = cc in subst (λ (i : Item). Contains (kept.Item other ∷ entries) (kept.Item i)) e (contains_head (kept.Item other) entries))
  | inr later ↦ contains_later (kept.Item other) (kept.Item item) entries (stands_kept entries item later)
]
stands_kept (kept.Slot number ∷ entries) item there = elim (contains_cases (OfSlot number) (OfItem item) (direct (plain_entries entries)) there) [
  | inl same ↦ absurd (cc)
  | inr later ↦ contains_later (kept.Slot number) (kept.Item item) entries (stands_kept entries item later)
]
stands_kept (kept.Local number ∷ entries) item there = elim (contains_cases (OfLocal number) (OfItem item) (direct (plain_entries entries)) there) [
  | inl same ↦ absurd (cc)
  | inr later ↦ contains_later (kept.Local number) (kept.Item item) entries (stands_kept entries item later)
]
stands_kept (kept.Branch guard then otherwise ∷ entries) item there = elim (contains_cases (OfBranch guard then otherwise) (OfItem item) (direct (plain_entries entries)) there) [
  | inl same ↦ absurd (cc)
  | inr later ↦ contains_later (kept.Branch guard then otherwise) (kept.Item item) entries (stands_kept entries item later)
]

pub kept_stands : (entries : List Entry) (item : Item) → Contains entries (kept.Item item) → Contains (direct (plain_entries entries)) (OfItem item)
kept_stands [] item there = absurd (contains_none (kept.Item item) there)
kept_stands (kept.Item other ∷ entries) item there = elim (contains_cases (kept.Item other) (kept.Item item) entries there) [
  | inl same ↦ (let e : other ≡ item = cc in subst (λ (i : Item). Contains (OfItem other ∷ direct (plain_entries entries)) (OfItem i)) e (contains_head (OfItem other) (direct (plain_entries entries))))
  | inr later ↦ contains_later (OfItem other) (OfItem item) (direct (plain_entries entries)) (kept_stands entries item later)
]
kept_stands (kept.Slot number ∷ entries) item there = elim (contains_cases (kept.Slot number) (kept.Item item) entries there) [
  | inl same ↦ absurd (cc)
  | inr later ↦ contains_later (OfSlot number) (OfItem item) (direct (plain_entries entries)) (kept_stands entries item later)
]
kept_stands (kept.Local number ∷ entries) item there = elim (contains_cases (kept.Local number) (kept.Item item) entries there) [
  | inl same ↦ absurd (cc)
  | inr later ↦ contains_later (OfLocal number) (OfItem item) (direct (plain_entries entries)) (kept_stands entries item later)
]
kept_stands (kept.Branch guard then otherwise ∷ entries) item there = elim (contains_cases (kept.Branch guard then otherwise) (kept.Item item) entries there) [
  | inl same ↦ absurd (cc)
  | inr later ↦ contains_later (OfBranch guard then otherwise) (OfItem item) (direct (plain_entries entries)) (kept_stands entries item later)
]

module _ (model : Model) (root : ℕ) (content : Content) (number : ℕ) (block : TokenBlock) (at : slice_get content.blocks number ≡ Some block) (entries : Entries)
    (is_block : IsBlock model block entries) (items : List Entry) (plain : plain_entries items ≡ entries) where
  entries_in_block : (decisions : List Decision) (claim : Claim) → EntriesSay model decisions root (InRule block.token block.rule) items claim
      → SaysInBlockAt model decisions root content number claim
  entries_in_block decisions claim (entry, there, (item, is, says)) = (
    block,
    at,
    record {
      entries = entries;
      has_block = is_block;
      item = item;
      stands = subst (λ (e : Entries). Contains (direct e) (OfItem item)) plain (kept_stands items item (subst (Contains items) is there));
      says = says;
    },
  )

  block_in_entries : (decisions : List Decision) (claim : Claim) → SaysInBlockAt model decisions root content number claim
      → EntriesSay model decisions root (InRule block.token block.rule) items claim
  block_in_entries decisions claim (other, stands, says) =
      let same : block ≡ other = get_same content.blocks number block other at stands in
      let here : SaysInBlock model decisions root block claim = subst (λ (b : TokenBlock). SaysInBlock model decisions root b claim) (sym same) says in
      let one : here.entries ≡ entries = block_once model _ _ block here.entries entries here.has_block is_block in
      let there = subst (λ (e : Entries). Contains (direct e) (OfItem here.item)) (one ∙ sym plain) here.stands in
      (kept.Item here.item, stands_kept items here.item there, (here.item, refl, here.says))

  pub said_in_block : (old new : Stored) → PostsSaid model (λ decisions. EntriesSay model decisions root (InRule block.token block.rule) items) old new
      → PostsSaid model (λ decisions. SaysInBlockAt model decisions root content number) old new
  said_in_block old new posts =
      said_same model (λ decisions. EntriesSay model decisions root (InRule block.token block.rule) items) (λ decisions. SaysInBlockAt model decisions root content number) old new
      entries_in_block block_in_entries posts

-- ---- block after block

module _ (model : Model) (root : ℕ) where
  pub said_in_none : (content : Content) (stored : Stored) → PostsSaid model (λ decisions. SaysInBlocks model decisions root content 0) stored stored
  said_in_none content stored = said_nothing model (λ decisions. SaysInBlocks model decisions root content 0) stored (λ decisions states claim said. (
      let below = said.1.2 in omega (arith, below)))

  blocks_joined : (content : Content) (k : ℕ) (decisions : List Decision) (claim : Claim)
      → SaysInBlocks model decisions root content k claim ⊎ SaysInBlockAt model decisions root content k claim → SaysInBlocks model decisions root content (k + 1) claim
  blocks_joined content k decisions claim (inl (block, (number, at, below), says)) = (block, (number, at, omega (arith, below)), says)
  blocks_joined content k decisions claim (inr (block, at, says)) = (block, (k, at, omega arith), says)

  blocks_parted : (content : Content) (k : ℕ) (decisions : List Decision) (claim : Claim) → SaysInBlocks model decisions root content (k + 1) claim
      → SaysInBlocks model decisions root content k claim ⊎ SaysInBlockAt model decisions root content k claim
  blocks_parted content k decisions claim (block, (number, at, below), says) = elim (cases_lt number k) [
    | inl earlier ↦ inl (block, (number, at, earlier), says)
    | inr past ↦ (
        let last : number ≡ k = omega (arith, below, past) in
        inr (block, subst (λ (n : ℕ). slice_get content.blocks n ≡ Some block) last at, says))
  ]

  pub said_in_more : (k : ℕ) (old mid new : Stored) → OnlyPosts old mid → PostsSaid model (λ decisions. SaysInBlocks model decisions root (content_now old) k) old mid
      → PostsSaid model (λ decisions. SaysInBlockAt model decisions root (content_now mid) k) mid new
      → PostsSaid model (λ decisions. SaysInBlocks model decisions root (content_now old) (k + 1)) old new
  said_in_more k old mid new only first second =
      let content = content_now old in
      let next = subst (λ (stored : Stored). PostsSaid model (λ decisions. SaysInBlockAt model decisions root (content_now stored) k) mid new) only second in
      said_same model (λ decisions claim. SaysInBlocks model decisions root content k claim ⊎ SaysInBlockAt model decisions root content k claim)
      (λ decisions. SaysInBlocks model decisions root content (k + 1)) old new (blocks_joined content k) (blocks_parted content k)
      (said_both model (λ decisions. SaysInBlocks model decisions root content k) (λ decisions. SaysInBlockAt model decisions root content k) old mid new only first next)

-- ---- anywhere

pub said_anywhere : (model : Model) (root unfolded : ℕ) (old mid new : Stored) → OnlyPosts old mid
    → PostsSaid model (λ decisions. SaysAmong model decisions root InProblem model.problem.items) old mid
    → PostsSaid model (λ decisions. SaysInBlocks model decisions root (content_now mid) unfolded) mid new
    → PostsSaid model (λ decisions. SaysAnywhere model decisions root (content_now old) unfolded) old new
said_anywhere model root unfolded old mid new only first second =
    let next = subst (λ (stored : Stored). PostsSaid model (λ decisions. SaysInBlocks model decisions root (content_now stored) unfolded) mid new) only second in
    said_both model (λ decisions. SaysAmong model decisions root InProblem model.problem.items) (λ decisions. SaysInBlocks model decisions root (content_now old) unfolded)
    old mid new only first next

pub said_of_token : (model : Model) (token : TokenName) → IsRejectable model token → (unfolded : ℕ) (old new : Stored)
    → PostsSaid model (λ decisions. SaysAnywhere model decisions token.root (content_now old) unfolded) old new
    → PostsSaid model (SaysOfRejectable model token (content_now old) unfolded) old new
said_of_token model token rejectable unfolded old new posts =
    said_same model (λ decisions. SaysAnywhere model decisions token.root (content_now old) unfolded) (SaysOfRejectable model token (content_now old) unfolded) old new
    (λ decisions claim said. (rejectable, said)) (λ decisions claim said. said.1) posts

-- what can be posted still can
pub can_kept : (model : Model) (unfolded : ℕ) (old new : Stored) → OnlyPosts old new → CanPostItems model old.net.tables (content_now old) unfolded
    → CanPostItems model new.net.tables (content_now new) unfolded
can_kept model unfolded old new only can = subst (λ (stored : Stored). CanPostItems model stored.net.tables (content_now stored) unfolded) (sym only) can

-- ---- one item

module _ (model : Model) (root : ℕ) (context : Context) (item : Item) where
  pub said_of_item : IsAboutRoot root item → (old new : Stored)
      → ((decisions : List Decision) → AreTokenStates model decisions (snapshot_of old)
      → PostsClaims (content_now old).names (ItemSays model (IsTaken decisions) context item) old.net.constraints new.net.constraints)
      → PostsSaid model (λ decisions. SaysOfRoot model decisions root context item) old new
  said_of_item about old new posts = λ decisions states.
      posts_same (content_now old).names (ItemSays model (IsTaken decisions) context item) (SaysOfRoot model decisions root context item) old.net.constraints new.net.constraints
      (λ claim says. record { about = about; says = says }) (λ claim said. said.says) (posts decisions states)

  pub not_said : (IsAboutRoot root item → ⊥) → (stored : Stored) → PostsSaid model (λ decisions. SaysOfRoot model decisions root context item) stored stored
  not_said other stored = said_nothing model (λ decisions. SaysOfRoot model decisions root context item) stored (λ decisions states claim said. other said.about)

module _ (model : Model) (root : ℕ) (context : Context) (entry : Entry) where
  pub said_of_entry : (item : Item) → entry ≡ kept.Item item → (old new : Stored) → PostsSaid model (λ decisions. SaysOfRoot model decisions root context item) old new
      → PostsSaid model (λ decisions. EntrySays model decisions root context entry) old new
  said_of_entry item is old new posts =
      said_same model (λ decisions. SaysOfRoot model decisions root context item) (λ decisions. EntrySays model decisions root context entry) old new
      (λ decisions claim said. (item, is, said))
      (λ decisions claim (other, is_other, said). (let both : kept.Item other ≡ kept.Item item = sym is_other ∙ is in let same : other ≡ item = cc in
      subst (λ (i : Item). SaysOfRoot model decisions root context i claim) same said)) posts

  pub no_entry_said : ((item : Item) → entry ≡ kept.Item item → ⊥) → (stored : Stored) → PostsSaid model (λ decisions. EntrySays model decisions root context entry) stored stored
  no_entry_said none stored = said_nothing model (λ decisions. EntrySays model decisions root context entry) stored (λ decisions states claim said. none said.0 said.1)

pub none_said_of : (model : Model) (token : TokenName) (unfolded : ℕ) → (IsRejectable model token → ⊥) → (stored : Stored)
    → PostsSaid model (SaysOfRejectable model token (content_now stored) unfolded) stored stored
none_said_of model token unfolded other stored =
    said_nothing model (SaysOfRejectable model token (content_now stored) unfolded) stored (λ decisions states claim said. other said.0)

-- ---- what can be posted of a block

pub entries_can : (model : Model) (tables : List Field) (content : Content) (unfolded : ℕ) → IsLawful model → CanPostItems model tables content unfolded → (block : TokenBlock) (entries : Entries)
    → IsUnfolded content unfolded block → (is : IsBlock model block entries) → (items : List Entry) → plain_entries items ≡ entries
    → All (CanPostEntry tables content (InRule block.token block.rule)) items
entries_can model tables content unfolded lawful can block entries is_open is items plain = all_from_get (CanPostEntry tables content (InRule block.token block.rule)) items (λ k entry at item same.
    let there : Contains items (kept.Item item) = subst (Contains items) same (contains_from_get items k entry at) in
    let stands = subst (λ (e : Entries). Contains (direct e) (OfItem item)) plain (kept_stands items item there) in
    let place = get_from_contains (direct entries) (OfItem item) stands in
    let of_rule = rule_lawful model lawful is.slot.pred block.rule is.rule is.has_rule in
    let stands_at : StandsAt is.rule.top block.path place.0 (OfItem item) = record { block = entries; way = is.way; stands = place.1 } in
    let entry_lawful = (of_rule.entries block.path place.0 (OfItem item) stands_at).1 in
    let named = can.there block entries item is_open is stands in (
      lawful_items_can_be_posted model tables (InRule block.token block.rule) (OfRule is.slot.pred is.rule) item lawful can.have_tables is.has_rule entry_lawful.0,
      what_is_there_is_named model content block.token block.rule item can.is_content named.0 named.1,
    ))

-- and what can be posted of blocks can of fewer
pub can_fewer : (model : Model) (tables : List Field) (content : Content) (unfolded fewer : ℕ) → fewer ≤ unfolded → CanPostItems model tables content unfolded
    → CanPostItems model tables content fewer
can_fewer model tables content unfolded fewer less can = record {
  have_tables = can.have_tables;
  is_content = can.is_content;
  roots = can.roots;
  there = λ block entries item (number, at, below). can.there block entries item (number, at, omega (arith, less, below));
}

-- what holds of a store holds where constraints have come
pub roots_kept : (model : Model) (old new : Stored) → OnlyPosts old new → AreRootsThere model (content_now old) → AreRootsThere model (content_now new)
roots_kept model old new only there = subst (λ (stored : Stored). AreRootsThere model (content_now stored)) (sym only) there

pub entry_kept : (old new : Stored) → OnlyPosts old new → (origin : Origin) (entry : Entry)
    → CanPostEntry old.net.tables (content_now old) (origin_context (content_now old).tokens origin) entry
    → CanPostEntry new.net.tables (content_now new) (origin_context (content_now new).tokens origin) entry
entry_kept old new only origin entry can =
    subst (λ (stored : Stored). CanPostEntry stored.net.tables (content_now stored) (origin_context (content_now stored).tokens origin) entry) (sym only) can

pub origin_kept : (old new : Stored) → OnlyPosts old new → (origin : Origin) → IsOriginBelow (length (tokens_now old.past)) origin → IsOriginBelow (length (tokens_now new.past)) origin
origin_kept old new only origin below = subst (λ (stored : Stored). IsOriginBelow (length (tokens_now stored.past)) origin) (sym only) below

-- an item of the problem, by its place
pub item_at_can : (model : Model) (old new : Stored) → OnlyPosts old new → IsLawful model → HaveTables model old.net.tables → IsContent model (content_now old)
    → AreRootsThere model (content_now old) → (k : ℕ) (item : Item) (items : List Item) → items ≡ model.problem.items → k < length items → item ≡ get_or items k item
    → CanPostItem new.net.tables InProblem item × IsItemNamed (content_now new) InProblem item
item_at_can model old new only lawful tables content roots k item items same below is =
    let there : Contains model.problem.items item = subst (λ (list : List Item). Contains list item) same (subst (Contains items) (sym is) (Contains-get_or items k item below)) in
    let of = All-contains (IsLawfulItem model OfProblem) model.problem.items item lawful.items there in
    subst (λ (stored : Stored). CanPostItem stored.net.tables InProblem item × IsItemNamed (content_now stored) InProblem item) (sym only) (
      lawful_items_can_be_posted model old.net.tables InProblem OfProblem item lawful tables tt of,
      items_of_problem_are_named model (content_now old) item content roots of,
    )
