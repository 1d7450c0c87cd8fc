-- A block is unfolded: what its slots, items and guards ask for is there.
use Rattle.std.proofs.Common.{◌≡◌, ℕ, ◌+◌, List, length, Some, Ok, Err, inl, inr, sym, ap, ◌∙◌, subst, arith}
use Rattle.std.specs.Prelude.{All, Contains, Result, OnOk, slice_get}
use Rattle.std.proofs.lemmas.Bool.{cases_lt}
use Rattle.std.proofs.lemmas.List.Elements.{Contains-append_right}
use Rattle.std.specs.Option.{option_map}
use Rattle.std.proofs.lemmas.Option.{slice_get_within, slice_get-map}
use Rattle.eu_name.specs.declared.name.VarName.{VarName}
use Rattle.model_core.specs.declared.decision.Decision.{Decision}
use Rattle.model_core.specs.declared.model.Model.{Model}
use Rattle.model_core.specs.declared.rule.Entry.{Entry}
use Rattle.model_core.specs.Block.{plain_entries}
use Rattle.model_core.specs.Blocks.{TokenBlock, IsBlock, direct, OfSlot, OfBranch}
use Rattle.model_core.specs.Entries.{Entries}
use Rattle.model_core.specs.Lawful.{IsLawful}
use Rattle.model_core.specs.Tokens.{slot_token}
use Rattle.token_store.specs.Tokens.{TokenPast, tokens_now, token_names}
use Rattle.constraint_net.specs.declared.NetFault.{NetFault}
use Rattle.constraint_net.specs.declared.NetFault.TheVariants.{Collapsed, Memory}
use Rattle.constraint_net.specs.declared.constraint.Constraint.{Constraint}
use Rattle.plan_defs.specs.Claims.{Claim, IsClaim}
use Rattle.plan_defs.specs.Terms.{InRule}
use Rattle.eu_name.proofs.Members.{get_same}
use Rattle.model_core.specs.Content.{Content, shown}
use Rattle.db_refine.specs.ProgressLaws.{AreItemsPosted}
use Rattle.db_refine.specs.Progress.{MissesNothing, GuardNames}
use Rattle.model_core.proofs.Blocks.{block_once}
use Rattle.db_refine.proofs.Following.{unfolding_misses}
use Rattle.db_refine.proofs.Keeping.{posting_misses}
use Rattle.db_refine.proofs.Mapping.{posted_kept}
use Rattle.eu_name.proofs.Places.{contains_map}
use Rattle.db_store.specs.Keys.{named_block}
use Rattle.db_store.specs.Stores.{Stored, snapshot_of, IsSnapshot}
use Rattle.db_store.specs.declared.key.OpenBlock.{OpenBlock}
use Rattle.db_posting.specs.Counting.{AreTokenStates}
use Rattle.db_posting.specs.Origins.{content_now}
use Rattle.db_posting.specs.Posted.{OnlyPosts}
use Rattle.db_posting.specs.Underway.{IsStoreUnderway, StaysUnderway, IsWatched, AreWatched, OnlyAdds}
use Rattle.db_posting.specs.Wanted.{ArePreds}
use Rattle.db_opening.proofs.Standing.{claims_justified}
use Rattle.db_fixpoint.specs.Branches.{StaysOnWay, FollowsFirst, FollowsBranches}
use Rattle.db_fixpoint.specs.Reading.{block_named, AreOpenEntries, CanRead, AreGuardsNamed}
use Rattle.db_fixpoint.specs.Unfolding.{AreAllKnown, BlockSays, PostsEntries, OnlyWatches, AreGuardsWatched, UnfoldsBlock, slot_tokens}
use Rattle.db_fixpoint.proofs.Adding.{Adds, goes_nowhere, goes_there, goes_at, adds_both, content_adds, block_stays}
use Rattle.db_fixpoint.proofs.Asking.{slot_of_all}
use Rattle.db_fixpoint.proofs.FollowedBranches.{branches_followed, entries_on, token_below}
use Rattle.db_fixpoint.proofs.Naming.{entries_read}
use Rattle.db_fixpoint.proofs.Posting.{content_same, reads_posted, guards_named}

-- ---- what is posted

pub posts_underway : (model : Model) (decisions : List Decision) (unfolded : ℕ) (due : List ℕ) (block : OpenBlock) (entries : Entries) (old new : Stored) → OnlyPosts old new
    → AreOpenEntries model old block entries → PostsEntries model (block_named old block) entries old new
    → IsStoreUnderway model decisions decisions old unfolded due → IsStoreUnderway model decisions decisions new unfolded due
posts_underway model decisions unfolded due block entries old new only has posts under =
    let content = content_now old in
    let named = block_named old block in
    let there : Contains content.blocks named = contains_map (named_block content.tokens) old.blocks block has.is_open in
    let claims = posts decisions under.states in
    let claimed : (claim : Claim) → BlockSays model decisions named entries claim → IsClaim model decisions (shown content) claim = λ claim says.
    inr (inl (record { block = named; entries = entries; item = says.0; is_open = there; has_block = has.is_block; stands = says.1; says = says.2 })) in
    let complete = subst (λ (list : List Constraint). MissesNothing model decisions list content unfolded due) (sym claims.behind)
    (posting_misses model decisions old.net.constraints claims.later content unfolded due under.complete) in
    subst (λ (stored : Stored). IsStoreUnderway model decisions decisions stored unfolded due) (sym only) (record {
      justified = claims_justified model decisions old.net.tables content (BlockSays model decisions named entries) old.net.constraints new.net.constraints claims claimed under.justified;
      complete = complete;
      states = record { states = under.states.states; rejected = under.states.rejected };
      preds = under.preds;
      watched = under.watched;
      within = under.within;
    })

pub posts_add : (model : Model) (decisions : List Decision) (block : TokenBlock) (entries : Entries) (old new : Stored) → OnlyPosts old new → PostsEntries model block entries old new
    → AreTokenStates model decisions (snapshot_of old) → OnlyAdds old new
posts_add model decisions block entries old new only posts states =
    let claims = posts decisions states in
    record {
      tokens = goes_nowhere (tokens_now old.past) (tokens_now new.past) (ap (λ (stored : Stored). tokens_now stored.past) only);
      keys = goes_nowhere old.keys new.keys (ap (λ (stored : Stored). stored.keys) only);
      blocks = goes_nowhere old.blocks new.blocks (ap (λ (stored : Stored). stored.blocks) only);
      watches = goes_nowhere old.watches new.watches (ap (λ (stored : Stored). stored.watches) only);
      domains = goes_nowhere old.net.domains new.net.domains (ap (λ (stored : Stored). stored.net.domains) only);
      posted = (claims.later, claims.behind);
      tables = ap (λ (stored : Stored). stored.net.tables) only;
      changed = ap (λ (stored : Stored). stored.net.changed) only;
    }

-- ---- what is watched

pub watches_underway : (model : Model) (decisions : List Decision) (unfolded : ℕ) (due : List ℕ) (old new : Stored) → OnlyWatches old new
    → IsStoreUnderway model decisions decisions old unfolded due → IsStoreUnderway model decisions decisions new unfolded due
watches_underway model decisions unfolded due old new only under =
    subst (λ (stored : Stored). IsStoreUnderway model decisions decisions stored unfolded due) (sym only.same) (record {
      justified = under.justified;
      complete = under.complete;
      states = record { states = under.states.states; rejected = under.states.rejected };
      preds = under.preds;
      watched = λ number block entries guard then otherwise name below at is stands names.
          let it = under.watched number block entries guard then otherwise name below at is stands names in
          (it.0, it.1, goes_there old.watches new.watches only.goes _ it.2);
      within = under.within;
    })

pub watches_add : (old new : Stored) → OnlyWatches old new → OnlyAdds old new
watches_add old new only = record {
  tokens = goes_nowhere (tokens_now old.past) (tokens_now new.past) (ap (λ (stored : Stored). tokens_now stored.past) only.same);
  keys = goes_nowhere old.keys new.keys (ap (λ (stored : Stored). stored.keys) only.same);
  blocks = goes_nowhere old.blocks new.blocks (ap (λ (stored : Stored). stored.blocks) only.same);
  watches = only.goes;
  domains = goes_nowhere old.net.domains new.net.domains (ap (λ (stored : Stored). stored.net.domains) only.same);
  posted = goes_nowhere old.net.constraints new.net.constraints (ap (λ (stored : Stored). stored.net.constraints) only.same);
  tables = ap (λ (stored : Stored). stored.net.tables) only.same;
  changed = ap (λ (stored : Stored). stored.net.changed) only.same;
}

pub reads_watched : (model : Model) (block : OpenBlock) (entries : Entries) (old new : Stored) → OnlyWatches old new → CanRead model old block entries → CanRead model new block entries
reads_watched model block entries old new only reads = subst (λ (stored : Stored). CanRead model stored block entries) (sym only.same) (record {
  has = record { is_open = reads.has.is_open; preds = reads.has.preds; is_block = reads.has.is_block };
  roots = reads.roots;
  named = reads.named;
})

-- the guards are named still where more has been posted
pub guards_named_on : (model : Model) (block : OpenBlock) (entries : Entries) (old new : Stored) → IsLawful model → IsSnapshot (snapshot_of old) → CanRead model old block entries → OnlyPosts old new
    → AreGuardsNamed (content_now new) (block_named new block) entries
guards_named_on model block entries old new lawful sound reads only =
    subst (λ (content : Content). AreGuardsNamed content (named_block content.tokens block) entries) (sym (content_same old new only)) (guards_named model old block entries lawful sound reads)

-- ---- the whole block

module _ (model : Model) (number : ℕ) (block : OpenBlock) (entries : List Entry) (old posted watching new : Stored)
    (sound : IsSnapshot (snapshot_of old)) (middle : IsSnapshot (snapshot_of watching)) (after : IsSnapshot (snapshot_of new))
    (at : slice_get old.blocks number ≡ Some block) (reads : CanRead model old block (plain_entries entries))
    (only_posts : OnlyPosts old posted) (posts : PostsEntries model (block_named old block) (plain_entries entries) old posted)
    (only_watches : OnlyWatches posted watching) (watched : AreGuardsWatched watching number (block_named posted block) (plain_entries entries)) where
  contents_same : content_now watching ≡ content_now old
  contents_same = ap content_now only_watches.same ∙ content_same old posted only_posts

  blocks_same : watching.blocks ≡ old.blocks
  blocks_same = ap (λ (stored : Stored). stored.blocks) only_watches.same ∙ ap (λ (stored : Stored). stored.blocks) only_posts

  pub watching_at : slice_get watching.blocks number ≡ Some block
  watching_at = subst (λ (list : List OpenBlock). slice_get list number ≡ Some block) (sym blocks_same) at

  pub watching_reads : CanRead model watching block (plain_entries entries)
  watching_reads = reads_watched model block (plain_entries entries) posted watching only_watches (reads_posted model block (plain_entries entries) old posted only_posts reads)

  watching_underway : (decisions : List Decision) (due : List ℕ) → IsStoreUnderway model decisions decisions old number due → IsStoreUnderway model decisions decisions watching number due
  watching_underway decisions due under =
      watches_underway model decisions number due posted watching only_watches
      (posts_underway model decisions number due block (plain_entries entries) old posted only_posts reads.has posts under)

  pub watching_adds : (decisions : List Decision) → AreTokenStates model decisions (snapshot_of old) → OnlyAdds old watching
  watching_adds decisions states =
      adds_both old posted watching (posts_add model decisions (block_named old block) (plain_entries entries) old posted only_posts posts states) (watches_add posted watching only_watches)

  module _ (decisions : List Decision) (due : List ℕ) (under : IsStoreUnderway model decisions decisions old number due) (adds : OnlyAdds watching new)
      (follows : FollowsBranches model number watching new) (still : IsStoreUnderway model decisions decisions new number due) where
    abbrev named : TokenBlock
    named = block_named old block

    more : Adds (content_now watching) (content_now new)
    more = content_adds watching new middle adds

    named_watching : block_named watching block ≡ named
    named_watching = ap (λ (content : Content). named_block content.tokens block) contents_same

    named_new : block_named new block ≡ named
    named_new = block_stays watching new middle adds block (token_below model watching middle block watching_reads.has.is_open) ∙ named_watching

    stood : slice_get (content_now watching).blocks number ≡ Some named
    stood = slice_get-map (named_block (content_now watching).tokens) watching.blocks number ∙ ap (option_map (named_block (content_now watching).tokens)) watching_at ∙ ap (λ (b : TokenBlock). Some b) named_watching

    stands_new : slice_get (content_now new).blocks number ≡ Some named
    stands_new = goes_at (content_now watching).blocks (content_now new).blocks more.blocks number named stood

    names_on : (k : ℕ) (name : VarName) → slice_get (content_now old).names k ≡ Some name → slice_get (content_now new).names k ≡ Some name
    names_on k name is = goes_at (content_now watching).names (content_now new).names more.names k name
        (subst (λ (content : Content). slice_get content.names k ≡ Some name) (sym contents_same) is)

    slots_new : (slot : ℕ) → Contains (direct (plain_entries entries)) (OfSlot slot) → Contains (content_now new).tokens (slot_token named.token named.rule slot)
    slots_new slot stands = goes_there (content_now watching).tokens (content_now new).tokens more.tokens (slot_token named.token named.rule slot)
        (subst (λ (content : Content). Contains content.tokens (slot_token named.token named.rule slot)) (sym contents_same) (reads.named (OfSlot slot) stands))

    items_new : AreItemsPosted model decisions new.net.constraints (content_now new) named (plain_entries entries)
    items_new item claim stands says =
        let claims = posts decisions under.states in
        let same : watching.net.constraints ≡ posted.net.constraints = ap (λ (stored : Stored). stored.net.constraints) only_watches.same in
        posted_kept (content_now old).names (content_now new).names names_on claims.later new.net.constraints
        (λ constraint there. goes_there watching.net.constraints new.net.constraints adds.posted constraint
        (subst (λ (list : List Constraint). Contains list constraint) (sym (same ∙ claims.behind)) (Contains-append_right old.net.constraints claims.later constraint there)))
        claim (claims.all claim (item, stands, says))

    watched_new : AreWatched model (content_now new) new.watches (number + 1)
    watched_new count other stand guard then otherwise name below stands is there names = elim (cases_lt count number) [
      | inl earlier ↦ still.watched count other stand guard then otherwise name earlier stands is there names
      | inr past ↦ (
          let same : count ≡ number = omega (arith, below, past) in
          let one : named ≡ other = get_same (content_now new).blocks number named other stands_new (subst (λ (n : ℕ). slice_get (content_now new).blocks n ≡ Some other) same stands) in
          let alike = block_once model _ _ other (plain_entries entries) stand (subst (λ (b : TokenBlock). IsBlock model b (plain_entries entries)) one reads.has.is_block) is in
          let here = subst (λ (e : Entries). Contains (direct e) (OfBranch guard then otherwise)) (sym alike) there in
          let of_posted : block_named posted block ≡ other = ap (λ (content : Content). named_block content.tokens block) (content_same old posted only_posts) ∙ one in
          let it = watched guard then otherwise here name (subst (λ (b : TokenBlock). GuardNames (InRule b.token b.rule) guard name) (sym of_posted) names) in
          subst (λ (n : ℕ). IsWatched (content_now new) new.watches n name) (sym same)
          (it.0, goes_at (content_now watching).names (content_now new).names more.names it.0 name it.1, goes_there watching.watches new.watches adds.watches _ it.2))
    ]

    unfolded_underway : IsStoreUnderway model decisions decisions new (number + 1) due
    unfolded_underway =
        let is_block : IsBlock model named (plain_entries entries) = reads.has.is_block in
        let branches = follows decisions decisions number due due named (plain_entries entries) (watching_underway decisions due under) stood is_block in
        let within = slice_get_within new.blocks number block (goes_at watching.blocks new.blocks adds.blocks number block watching_at) in
        record {
          justified = still.justified;
          complete = unfolding_misses model decisions new.net.constraints (content_now new) named (plain_entries entries) number due still.complete stands_new is_block slots_new items_new branches;
          states = still.states;
          preds = still.preds;
          watched = watched_new;
          within = omega (arith, within);
        }

  pub entries_unfold : (result : Result (Unit {0}) NetFault) → StaysOnWay model watching result new
      → OnOk result (FollowsFirst model (block_named watching block) (plain_entries entries) (length entries) watching new) → OnOk result (OnlyAdds watching new)
      → UnfoldsBlock model number old result new
  entries_unfold (Ok done) stays first adds = λ decisions due under.
      let mid = watching_underway decisions due under in
      let follows = branches_followed model number block entries watching new middle after watching_at watching_reads (Ok done) first adds in
      unfolded_underway decisions due under adds follows (stays decisions decisions number due mid tt)
  entries_unfold (Err Collapsed) stays first adds = λ decisions due under. stays decisions decisions number due (watching_underway decisions due under) tt
  entries_unfold (Err Memory) stays first adds = tt

  pub all_adds : (decisions : List Decision) → AreTokenStates model decisions (snapshot_of old) → (result : Result (Unit {0}) NetFault) → OnOk result (OnlyAdds watching new) → OnOk result (OnlyAdds old new)
  all_adds decisions states (Ok done) adds = adds_both old watching new (watching_adds decisions states) adds
  all_adds decisions states (Err fault) adds = tt

  pub all_past : (result : Result (Unit {0}) NetFault) → OnOk result (new.past ≡ watching.past) → OnOk result (new.past ≡ old.past)
  all_past (Ok done) same = same ∙ ap (λ (stored : Stored). stored.past) only_watches.same ∙ ap (λ (stored : Stored). stored.past) only_posts
  all_past (Err fault) same = tt

-- ---- behind its slots

module _ (model : Model) (number : ℕ) (block : OpenBlock) (entries : Entries) (old mid : Stored) (sound : IsSnapshot (snapshot_of old)) (at : slice_get old.blocks number ≡ Some block)
    (has : AreOpenEntries model old block entries) (adds : OnlyAdds old mid)
    (came : All (Contains (token_names (tokens_now mid.past))) (slot_tokens (block_named old block) entries)) where
  -- all that the block names is there
  pub reads_behind : IsLawful model → (decisions : List Decision) (due : List ℕ) → IsStoreUnderway model decisions decisions mid number due → CanRead model mid block entries
  reads_behind lawful decisions due under =
      let stands = goes_at old.blocks mid.blocks adds.blocks number block at in
      let on = entries_on model block entries old mid sound adds under.preds has in
      let same = block_stays old mid sound adds block (token_below model old sound block has.is_open) in
      entries_read model decisions decisions mid number number due under block stands lawful (omega arith) entries on.is_block
      (λ slot there. subst (λ (b : TokenBlock). Contains (content_now mid).tokens (slot_token b.token b.rule slot)) (sym same)
      (slot_of_all (Contains (content_now mid).tokens) (block_named old block) entries came slot there))

  pub stands_behind : slice_get mid.blocks number ≡ Some block
  stands_behind = goes_at old.blocks mid.blocks adds.blocks number block at

pub unfolds_through : (model : Model) (number : ℕ) (old mid new : Stored)
    → ((decisions : List Decision) (due : List ℕ) → IsStoreUnderway model decisions decisions old number due → IsStoreUnderway model decisions decisions mid number due)
    → (result : Result (Unit {0}) NetFault) → UnfoldsBlock model number mid result new → UnfoldsBlock model number old result new
unfolds_through model number old mid new first (Ok done) unfolds = λ decisions due under. unfolds decisions due (first decisions due under)
unfolds_through model number old mid new first (Err Collapsed) unfolds = λ decisions due under. unfolds decisions due (first decisions due under)
unfolds_through model number old mid new first (Err Memory) unfolds = tt

-- what its slots ask for can't come
pub slots_fail : (model : Model) (number : ℕ) (old new : Stored) (fault : NetFault) → StaysUnderway model (AreAllKnown (content_now old)) old (Err fault) new → UnfoldsBlock model number old (Err fault) new
slots_fail model number old new Collapsed stays = λ decisions due under. stays decisions decisions number due under under.complete.known
slots_fail model number old new Memory stays = tt

pub adds_behind : (old mid new : Stored) → OnlyAdds old mid → (result : Result (Unit {0}) NetFault) → OnOk result (OnlyAdds mid new) → OnOk result (OnlyAdds old new)
adds_behind old mid new first (Ok done) adds = adds_both old mid new first adds
adds_behind old mid new first (Err fault) adds = tt

pub preds_behind : (model : Model) (mid new : Stored) → ArePreds model (tokens_now mid.past) → (result : Result (Unit {0}) NetFault) → OnOk result (new.past ≡ mid.past)
    → OnOk result (ArePreds model (tokens_now new.past))
preds_behind model mid new preds (Ok done) same = subst (λ (past : TokenPast). ArePreds model (tokens_now past)) (sym same) preds
preds_behind model mid new preds (Err fault) same = tt
