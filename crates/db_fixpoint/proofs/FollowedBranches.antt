-- The branches of a block are followed, one after another.
use Rattle.std.proofs.Common.{◌≡◌, ℕ, ◌<◌, ◌≤◌, ◌+◌, zero, suc, get_or, List, [], ◌∷◌, length, Some, None, Ok, Err, inl, inr, refl, sym, ap, ◌∙◌, subst, arith}
use Rattle.std.specs.Prelude.{All, ⊤, Contains, Option, Result, OnOk, slice_get}
use Rattle.std.specs.Option.{option_map}
use Rattle.std.proofs.lemmas.Bool.{cases_lt}
use Rattle.std.proofs.lemmas.List.Elements.{All-head, All-tail, All-weaker, All-contains}
use Rattle.std.proofs.lemmas.Option.{slice_get-map, slice_get-get_or}
use Rattle.eu_name.specs.declared.name.TokenName.{TokenName}
use Rattle.model_core.specs.declared.decision.Decision.{Decision}
use Rattle.model_core.specs.declared.item.Item.TheVariants.{Constraint, Relation}
use Rattle.model_core.specs.declared.item.Term.{Term}
use Rattle.model_core.specs.declared.model.Model.{Model}
use Rattle.model_core.specs.declared.rule.Entry.{Entry}
use Rattle.model_core.specs.declared.rule.Entry.TheVariants as entry
use Rattle.model_core.specs.declared.rule.Guard.{Guard}
use Rattle.model_core.specs.declared.rule.Guard.TheVariants.{Equal, Differ}
use Rattle.model_core.specs.declared.rule.Side.{Side}
use Rattle.model_core.specs.declared.rule.Turn.{Turn}
use Rattle.model_core.specs.declared.variable.ValueKind.{ValueKind}
use Rattle.model_core.specs.declared.view.TokenState.{TokenState}
use Rattle.model_core.specs.declared.view.TokenState.TheVariants.{Inactive, Active, Fact, Merged, Rejected}
use Rattle.model_core.specs.Block.{plain_entries}
use Rattle.model_core.specs.Blocks.{TokenBlock, IsBlock, Direct, direct, OfSlot, OfLocal, OfItem, OfBranch, chosen, block_at}
use Rattle.model_core.specs.Entries.{Entries}
use Rattle.model_core.specs.Kinds.{OfRule, IsOfKind}
use Rattle.model_core.specs.Lawful.{IsLawful, IsLawfulGuard}
use Rattle.model_core.specs.Numbers.{turned}
use Rattle.model_core.specs.Standing.{StandsAt}
use Rattle.model_core.specs.State.{State}
use Rattle.model_core.specs.Tokens.{root_token}
use Rattle.model_core.specs.TokenStates.{HasTokenState}
use Rattle.rule_engine.proofs.Finding.{found_by}
use Rattle.rule_engine.proofs.Limits.{as_many, block_short}
use Rattle.rule_engine.proofs.Listing.{standing}
use Rattle.rule_engine.proofs.Turning.{branch_entry, read_entry}
use Rattle.token_store.specs.Tokens.{TokenPast, tokens_now, token_names, token_states}
use Rattle.constraint_net.specs.declared.NetFault.{NetFault}
use Rattle.constraint_net.specs.declared.NetFault.TheVariants.{Collapsed, Memory}
use Rattle.plan_defs.specs.Resources.{OpensIn}
use Rattle.plan_defs.specs.Situations.{situation_of}
use Rattle.plan_defs.specs.Support.{one_side, other_side}
use Rattle.plan_defs.specs.Terms.{Context, InRule}
use Rattle.plan_defs.proofs.Lower.{opens_further}
use Rattle.eu_name.proofs.Members.{get_below, get_same, contains_from_get}
use Rattle.model_core.specs.Content.{Content, shown}
use Rattle.model_core.proofs.Blocks.{Follows-push, block_once}
use Rattle.db_refine.specs.Coming.{IsTermThere, IsWhatIsNamedThere}
use Rattle.db_refine.proofs.Keeping.{turned_behind}
use Rattle.model_core.proofs.Lawful.{rule_lawful}
use Rattle.eu_name.proofs.Places.{contains_map}
use Rattle.db_refine.proofs.Supporting.{branch_supported}
use Rattle.db_store.specs.Keys.{named_block}
use Rattle.db_store.specs.StoreMarks.{KeepStoreMarks}
use Rattle.db_store.specs.Stores.{Stored, snapshot_of, IsSnapshot}
use Rattle.db_store.specs.declared.key.OpenBlock.{OpenBlock}
use Rattle.db_store.proofs.Naming.{names_are_once}
use Rattle.db_posting.specs.Counting.{AreTokenStates}
use Rattle.db_posting.specs.Origins.{content_now}
use Rattle.db_posting.specs.Terms.{CanStand}
use Rattle.db_posting.proofs.Allowing.{lawful_terms_can_stand}
use Rattle.db_opening.specs.Opened.{AskForBlock}
use Rattle.db_posting.specs.Underway.{IsStoreUnderway, StaysUnderway, OnlyAdds}
use Rattle.db_posting.specs.Wanted.{ArePreds}
use Rattle.db_opening.proofs.Opening.{named_at}
use Rattle.db_fixpoint.specs.Branches.{StaysOnWay, IsSideOpen, FollowsBranch, FollowsFirst, FollowsBranches}
use Rattle.db_fixpoint.specs.Guards.{OpensOnly}
use Rattle.db_fixpoint.specs.Reading.{block_named, AreOpenEntries, CanRead, CanReadAt}
use Rattle.db_fixpoint.proofs.Adding.{Adds, adds_nothing, adds_both, content_adds, block_stays, further_on, term_on, goes_there, opens_back}
use Rattle.db_posting.proofs.Storing.{marks_same, marks_both}

-- ---- on the way

-- a store that was on its way still is
abbrev pub KeepsUnderway : Model → Stored → Stored → Type 0
KeepsUnderway model old new =
    (followed decisions : List Decision) (unfolded : ℕ) (due : List ℕ) → IsStoreUnderway model followed decisions old unfolded due → IsStoreUnderway model followed decisions new unfolded due

module _ (model : Model) where
  -- what is asked for is so
  pub stays_asked : (Asked : List Decision → Type 0) (old new : Stored)
      → ((followed decisions : List Decision) (unfolded : ℕ) (due : List ℕ) → IsStoreUnderway model followed decisions old unfolded due → Asked decisions)
      → (result : Result (Unit {0}) NetFault) → StaysUnderway model Asked old result new → StaysOnWay model old result new
  stays_asked Asked old new asked (Ok done) stays = λ followed decisions unfolded due under none.
      stays followed decisions unfolded due under (asked followed decisions unfolded due under)
  stays_asked Asked old new asked (Err Collapsed) stays = λ followed decisions unfolded due under none.
      stays followed decisions unfolded due under (asked followed decisions unfolded due under)
  stays_asked Asked old new asked (Err Memory) stays = tt

  -- behind a step that stays on the way
  pub stays_through : (old mid new : Stored) → KeepsUnderway model old mid → (result : Result (Unit {0}) NetFault) → StaysOnWay model mid result new → StaysOnWay model old result new
  stays_through old mid new first (Ok done) stays = λ followed decisions unfolded due under none.
      stays followed decisions unfolded due (first followed decisions unfolded due under) tt
  stays_through old mid new first (Err Collapsed) stays = λ followed decisions unfolded due under none.
      stays followed decisions unfolded due (first followed decisions unfolded due under) tt
  stays_through old mid new first (Err Memory) stays = tt

  -- ---- states of tokens

  token_state : (one other : State) → one.tokens ≡ other.tokens → (decisions : List Decision) (token : TokenName) (state : TokenState) → HasTokenState model one decisions token state
      → HasTokenState model other decisions token state
  token_state one other same decisions token Inactive is = is
  token_state one other same decisions token Active is = is
  token_state one other same decisions token Fact is = is
  token_state one other same decisions token (Merged place) is = (is.0, subst (λ (list : List TokenName). slice_get list place ≡ Some is.0) same is.1, is.2)
  token_state one other same decisions token Rejected is = is

  pub states_same : (old new : Stored) → new.past ≡ old.past → (decisions : List Decision) → AreTokenStates model decisions (snapshot_of old) → AreTokenStates model decisions (snapshot_of new)
  states_same old new same decisions are = record {
    states = λ place token state named stated. token_state (shown (content_now old)) (shown (content_now new))
        (ap (λ (past : TokenPast). token_names (tokens_now past)) (sym same)) decisions token state
        (subst (λ (past : TokenPast). (p : ℕ) (t : TokenName) (s : TokenState) → slice_get (token_names (tokens_now past)) p ≡ Some t
        → slice_get (token_states (tokens_now past)) p ≡ Some s → HasTokenState model (shown (content_now old)) decisions t s)
        (sym same) are.states place token state named stated);
    rejected = are.rejected;
  }

  -- ---- what can be read

  pub token_below : (stored : Stored) → IsSnapshot (snapshot_of stored) → (block : OpenBlock) → Contains stored.blocks block → block.token < length (tokens_now stored.past)
  token_below stored sound block there =
      All-contains (λ (each : OpenBlock). each.token < length (tokens_now stored.past)) stored.blocks block sound.of_tokens there

  what_on : (old new : Content) → Adds old new → (token : TokenName) (rule : ℕ) (what : Direct) → IsWhatIsNamedThere old token rule what → IsWhatIsNamedThere new token rule what
  what_on old new adds token rule (OfItem (Constraint kind terms)) there =
      All-weaker (IsTermThere old (InRule token rule)) (IsTermThere new (InRule token rule)) (λ term one. term_on old new adds (InRule token rule) term one) terms there
  what_on old new adds token rule (OfItem (Relation relation slot)) there = goes_there old.tokens new.tokens adds.tokens _ there
  what_on old new adds token rule (OfBranch guard then otherwise) there =
      (term_on old new adds (InRule token rule) (one_side guard) there.0, term_on old new adds (InRule token rule) (other_side guard) there.1)
  what_on old new adds token rule (OfSlot slot) there = goes_there old.tokens new.tokens adds.tokens _ there
  what_on old new adds token rule (OfLocal number) there = goes_there old.names new.names adds.names _ there

  module _ (block : OpenBlock) (entries : Entries) (old new : Stored) (sound : IsSnapshot (snapshot_of old)) (adds : OnlyAdds old new) (preds : ArePreds model (tokens_now new.past)) where
    pub entries_on : AreOpenEntries model old block entries → AreOpenEntries model new block entries
    entries_on has = record {
      is_open = goes_there old.blocks new.blocks adds.blocks block has.is_open;
      preds = preds;
      is_block = subst (λ (b : TokenBlock). IsBlock model b entries) (sym (block_stays old new sound adds block (token_below old sound block has.is_open))) has.is_block;
    }

    pub reads_on : CanRead model old block entries → CanRead model new block entries
    reads_on reads =
        let more = content_adds old new sound adds in
        let same = block_stays old new sound adds block (token_below old sound block reads.has.is_open) in
        record {
          has = entries_on reads.has;
          roots = λ number root is_root. goes_there (content_now old).tokens (content_now new).tokens more.tokens (root_token number) (reads.roots number root is_root);
          named = λ what stands. subst (λ (b : TokenBlock). IsWhatIsNamedThere (content_now new) b.token block.rule what) (sym same)
              (what_on (content_now old) (content_now new) more (block_named old block).token block.rule what (reads.named what stands));
        }

-- ---- the entries of a block

-- the block, where its token has this name and its way is this
pub is_at : (model : Model) (names : List TokenName) (block : OpenBlock) (token : TokenName) (path : List Turn) (entries : Entries) → Some token ≡ slice_get names block.token
    → path ≡ block.path → IsBlock model (named_block names block) entries → IsBlock model (record { token = token; rule = block.rule; path = path }) entries
is_at model names block token path entries at same is =
    subst (λ (p : List Turn). IsBlock model (record { token = token; rule = block.rule; path = p }) entries) (sym same)
    (subst (λ (t : TokenName). IsBlock model (record { token = t; rule = block.rule; path = block.path }) entries) (sym (named_at names block.token token at)) is)

pub few_entries : (model : Model) (block : TokenBlock) (entries : Entries) → IsLawful model → IsBlock model block entries → length (direct entries) ≤ 65536
few_entries model block entries lawful is =
    let found = found_by model block.token block.rule block.path entries is.rule lawful is refl in
    block_short model found.pred is.rule found.few block.path entries found.way

-- ---- a branch

module _ (model : Model) (lawful : IsLawful model) (old : Stored) (sound : IsSnapshot (snapshot_of old)) (block : OpenBlock) (entries : Entries) (reads : CanRead model old block entries)
    (place : ℕ) (guard : Guard) (then otherwise : Entries) (stands : slice_get (direct entries) place ≡ Some (OfBranch guard then otherwise)) where
  abbrev content : Content
  content = content_now old

  abbrev named : TokenBlock
  named = block_named old block

  abbrev here : Context
  here = InRule named.token block.rule

  abbrev has : IsBlock model named entries
  has = reads.has.is_block

  two_stand : (kind : ValueKind) (left right : Term) → All (IsOfKind model (OfRule has.slot.pred has.rule) kind) (left ∷ right ∷ []) → CanStand here left × CanStand here right
  two_stand kind left right are =
      let Is = IsOfKind model (OfRule has.slot.pred has.rule) kind in (
        lawful_terms_can_stand model here (OfRule has.slot.pred has.rule) kind left lawful has.has_rule (All-head Is left (right ∷ []) are),
        lawful_terms_can_stand model here (OfRule has.slot.pred has.rule) kind right lawful has.has_rule (All-head Is right [] (All-tail Is left (right ∷ []) are)),
      )

  sides_stand : (each : Guard) → IsLawfulGuard model has.slot.pred has.rule block.path each → CanStand here (one_side each) × CanStand here (other_side each)
  sides_stand (Equal left right) of = two_stand of.0.0 left right of.0.1
  sides_stand (Differ left right) of = two_stand of.0.0 left right of.0.1

  pub guard_stands : CanStand here (one_side guard) × CanStand here (other_side guard)
  guard_stands =
      let at : StandsAt has.rule.top block.path place (OfBranch guard then otherwise) = record { block = entries; way = has.way; stands = stands } in
      sides_stand guard ((rule_lawful model lawful has.slot.pred block.rule has.rule has.has_rule).entries block.path place (OfBranch guard then otherwise) at).1

  pub guard_there : IsTermThere content here (one_side guard) × IsTermThere content here (other_side guard)
  guard_there = reads.named (OfBranch guard then otherwise) (contains_from_get (direct entries) place (OfBranch guard then otherwise) stands)

  abbrev pub behind_at : Side → OpenBlock
  behind_at side = record { token = block.token; rule = block.rule; path = turned block.path place side }

  pub behind_is : (side : Side) → (behind : Entries) × IsBlock model (block_named old (behind_at side)) behind
  behind_is side = (
    chosen side then otherwise,
    record {
      slot = has.slot;
      has_token = has.has_token;
      rule = has.rule;
      has_rule = has.has_rule;
      way = Follows-push (λ each way. ⊤) has.rule.top block.path place side entries guard then otherwise has.way stands tt;
    },
  )

  block_there : Contains content.blocks named
  block_there = contains_map (named_block content.tokens) old.blocks block reads.has.is_open

  asks_behind : (side : Side) (followed decisions : List Decision) (unfolded : ℕ) (due : List ℕ) → IsStoreUnderway model followed decisions old unfolded due
      → OpensIn model decisions (shown content) named guard side → AskForBlock model content (block_named old (behind_at side)) decisions
  asks_behind side followed decisions unfolded due under opens =
      let found = under.justified.blocks named block_there in
      let same = block_once model _ _ named found.0 entries found.1.is_open.has_block has in
      record {
        entries = chosen side then otherwise;
        supported = branch_supported model decisions (shown content) named found.0 found.1 place guard then otherwise side
            (subst (λ (e : Entries). slice_get (direct e) place ≡ Some (OfBranch guard then otherwise)) (sym same) stands) opens;
        behind = turned_behind content named.token named.rule named.path place side block_there;
      }

  abbrev pub Opened : Option Side → Type 0
  Opened found = (decisions : List Decision) → AreTokenStates model decisions (snapshot_of old) → OpensOnly model (situation_of decisions (shown content)) here guard found

  module _ (side : Side) (only : Opened (Some side)) (new : Stored) (result : Result (Unit {0}) NetFault) where
    pub behind_stays : StaysUnderway model (AskForBlock model content (block_named old (behind_at side))) old result new → StaysOnWay model old result new
    behind_stays stays = stays_asked model (AskForBlock model content (block_named old (behind_at side))) old new
        (λ followed decisions unfolded due under. asks_behind side followed decisions unfolded due under ((only decisions under.states side).1 refl)) result stays

  pub follows_some : (side : Side) → Opened (Some side) → (new : Stored) → Contains new.blocks (behind_at side) → new.past ≡ old.past → FollowsBranch model named place guard old new
  follows_some side only new there past decisions states other opens =
      let e : Some side ≡ Some other = (only decisions states other).0 opens in
      let same : side ≡ other = cc in
      let tokens : (content_now new).tokens ≡ content.tokens = ap (λ (p : TokenPast). token_names (tokens_now p)) past in
      let found = contains_map (named_block (content_now new).tokens) new.blocks (behind_at side) there in
      subst (λ (s : Side). Contains (content_now new).blocks (block_named old (behind_at s))) same
      (subst (λ (list : List TokenName). Contains (content_now new).blocks (named_block list (behind_at side))) tokens found)

  pub follows_opened : (side : Side) → Opened (Some side) → (new : Stored) (result : Result (Unit {0}) NetFault) → OnOk result (Contains new.blocks (behind_at side)) → OnOk result (new.past ≡ old.past)
      → OnOk result (FollowsBranch model named place guard old new)
  follows_opened side only new (Ok done) there past = follows_some side only new there past
  follows_opened side only new (Err fault) there past = tt

  pub follows_none : Opened None → FollowsBranch model named place guard old old
  follows_none only decisions states other opens = absurd (let e : None ≡ Some other = (only decisions states other).0 opens in cc)

-- ---- all branches

module _ (model : Model) (block : OpenBlock) (entries : Entries) (old mid new : Stored) (sound : IsSnapshot (snapshot_of old)) (middle : IsSnapshot (snapshot_of mid))
    (past : mid.past ≡ old.past) (one : OnlyAdds old mid) (other : OnlyAdds mid new) where
  side_kept : (decisions : List Decision) (place : ℕ) (guard : Guard) → IsSideOpen model decisions (content_now old) (block_named old block) place guard (content_now mid)
      → IsSideOpen model decisions (content_now old) (block_named old block) place guard (content_now new)
  side_kept decisions place guard is side opens =
      goes_there (content_now mid).blocks (content_now new).blocks (content_adds mid new middle other).blocks _ (is side opens)

  names_same : block_named mid block ≡ block_named old block
  names_same = ap (λ (p : TokenPast). named_block (token_names (tokens_now p)) block) past

  branch_kept : (place : ℕ) (guard : Guard) → FollowsBranch model (block_named mid block) place guard mid new → FollowsBranch model (block_named old block) place guard old new
  branch_kept place guard follows decisions states side opens =
      let further = further_on (content_now old) (content_now mid) (content_adds old mid sound one) decisions in
      subst (λ (b : TokenBlock). IsSideOpen model decisions (content_now mid) b place guard (content_now new)) names_same
      (follows decisions (states_same model old mid past decisions states)) side
      (opens_further model (situation_of decisions (shown (content_now old))) (situation_of decisions (shown (content_now mid))) further
      (InRule (block_named old block).token block.rule) guard side opens)

  -- one entry more, of which each guard that stands there is followed
  pub first_more : (count : ℕ) → FollowsFirst model (block_named old block) entries count old mid
      → ((guard : Guard) (then otherwise : Entries) → slice_get (direct entries) count ≡ Some (OfBranch guard then otherwise) → FollowsBranch model (block_named mid block) count guard mid new)
      → FollowsFirst model (block_named old block) entries (count + 1) old new
  first_more count first last place guard then otherwise below stands = elim (cases_lt place count) [
    | inl before ↦ (λ decisions states. side_kept decisions place guard (first place guard then otherwise before stands decisions states))
    | inr past_it ↦ (
        let same : place ≡ count = omega (arith, below, past_it) in
        branch_kept place guard (subst (λ (n : ℕ). FollowsBranch model (block_named mid block) n guard mid new) (sym same)
        (last guard then otherwise (subst (λ (n : ℕ). slice_get (direct entries) n ≡ Some (OfBranch guard then otherwise)) same stands))))
  ]

pub first_none : (model : Model) (block : TokenBlock) (entries : Entries) (stored : Stored) → FollowsFirst model block entries 0 stored stored
first_none model block entries stored place guard then otherwise below stands = absurd (omega (arith, below))

-- what a store has become when the first so many entries were looked at
pub record LookedAt (model : Model) (block : OpenBlock) (entries : Entries) (count : ℕ) (old new : Stored) : Type 0 where
  pub underway : KeepsUnderway model old new
  pub followed : FollowsFirst model (block_named old block) entries count old new
  pub tokens : new.past ≡ old.past
  pub adds : OnlyAdds old new
  pub marks : KeepStoreMarks old new

pub looked_none : (model : Model) (block : OpenBlock) (entries : Entries) (stored : Stored) → LookedAt model block entries 0 stored stored
looked_none model block entries stored = record {
  underway = λ followed decisions unfolded due under. under;
  followed = first_none model (block_named stored block) entries stored;
  tokens = refl;
  adds = adds_nothing stored;
  marks = marks_same _;
}

entry_branch : (entries : List Entry) (k : ℕ) (guard : Guard) (then otherwise : Entries) → slice_get entries k ≡ Some (entry.Branch guard then otherwise)
    → slice_get (standing entries) k ≡ Some (OfBranch guard then otherwise)
entry_branch [] k guard then otherwise at = absurd (cc)
entry_branch (entry.Slot slot ∷ more) zero guard then otherwise at = absurd (cc)
entry_branch (entry.Slot slot ∷ more) (suc k) guard then otherwise at = entry_branch more k guard then otherwise at
entry_branch (entry.Local local ∷ more) zero guard then otherwise at = absurd (cc)
entry_branch (entry.Local local ∷ more) (suc k) guard then otherwise at = entry_branch more k guard then otherwise at
entry_branch (entry.Item item ∷ more) zero guard then otherwise at = absurd (cc)
entry_branch (entry.Item item ∷ more) (suc k) guard then otherwise at = entry_branch more k guard then otherwise at
entry_branch (entry.Branch guard' then' otherwise' ∷ more) zero guard then otherwise at =
    let g : guard' ≡ guard = cc in
    let t : then' ≡ then = cc in
    let o : otherwise' ≡ otherwise = cc in
    (λ i. Some (OfBranch (g i) (t i) (o i)))
entry_branch (entry.Branch guard' then' otherwise' ∷ more) (suc k) guard then otherwise at = entry_branch more k guard then otherwise at

-- the entry that is read at a place stands there
pub branch_read : (entries : List Entry) (place : ℕ) (read : Entry) (guard : Guard) (then otherwise : Entries) → place < length entries → read ≡ get_or entries place read
    → read ≡ entry.Branch guard then otherwise → slice_get (standing entries) place ≡ Some (OfBranch guard then otherwise)
branch_read entries place read guard then otherwise below is sort = entry_branch entries place guard then otherwise (read_entry entries place read guard then otherwise below is sort)

module _ (model : Model) (block : OpenBlock) (entries : List Entry) (old mid new : Stored) (sound : IsSnapshot (snapshot_of old)) (place : ℕ) (read : Entry)
    (below : place < length entries) (is : read ≡ get_or entries place read) (so_far : LookedAt model block (plain_entries entries) place old mid) where
  -- no branch stands there
  pub looked_other : ((guard : Guard) (then otherwise : Entries) → read ≡ entry.Branch guard then otherwise → ⊥) → LookedAt model block (plain_entries entries) (place + 1) old mid
  looked_other none = record {
    underway = so_far.underway;
    followed = λ at guard then otherwise before stands. elim (cases_lt at place) [
      | inl earlier ↦ so_far.followed at guard then otherwise earlier stands
      | inr past ↦ (
          let same : at ≡ place = omega (arith, before, past) in
          let found = branch_entry entries place guard then otherwise (subst (λ (n : ℕ). slice_get (standing entries) n ≡ Some (OfBranch guard then otherwise)) same stands) in
          let here : slice_get entries place ≡ Some read = slice_get-get_or entries place read below ∙ ap (λ (e : Entry). Some e) (sym is) in
          absurd (none guard then otherwise (let e : Some read ≡ Some (entry.Branch guard then otherwise) = sym here ∙ found in cc)))
    ];
    tokens = so_far.tokens;
    adds = so_far.adds;
    marks = so_far.marks;
  }

  -- a branch stands there, and it has been followed
  pub looked_branch : (guard : Guard) (then otherwise : Entries) → read ≡ entry.Branch guard then otherwise → IsSnapshot (snapshot_of mid)
      → StaysOnWay model mid (Ok tt) new → FollowsBranch model (block_named mid block) place guard mid new → new.past ≡ mid.past → OnlyAdds mid new → KeepStoreMarks mid new
      → LookedAt model block (plain_entries entries) (place + 1) old new
  looked_branch guard then otherwise sort middle stays follows past adds marks = record {
    underway = λ followed decisions unfolded due under. stays followed decisions unfolded due (so_far.underway followed decisions unfolded due under) tt;
    followed = first_more model block (plain_entries entries) old mid new sound middle so_far.tokens so_far.adds adds place so_far.followed
        (λ other then' otherwise' stands.
        let found = branch_read entries place read guard then otherwise below is sort in
        let e : Some (OfBranch guard then otherwise) ≡ Some (OfBranch other then' otherwise') = sym found ∙ stands in
        let same : guard ≡ other = cc in
        subst (λ (g : Guard). FollowsBranch model (block_named mid block) place g mid new) same follows);
    tokens = past ∙ so_far.tokens;
    adds = adds_both old mid new so_far.adds adds;
    marks = marks_both _ _ _ so_far.marks marks;
  }

-- what was there can be read further on
pub reads_later : (model : Model) (block : OpenBlock) (entries : Entries) (count : ℕ) (old new : Stored) → IsSnapshot (snapshot_of old) → LookedAt model block entries count old new
    → CanRead model old block entries → CanRead model new block entries
reads_later model block entries count old new sound looked reads =
    reads_on model block entries old new sound looked.adds (subst (λ (past : TokenPast). ArePreds model (tokens_now past)) (sym looked.tokens) reads.has.preds) reads

-- ---- a block by its number

module _ (model : Model) (number : ℕ) (block : OpenBlock) (entries : Entries) (old new : Stored) (sound : IsSnapshot (snapshot_of old)) (after : IsSnapshot (snapshot_of new))
    (at : slice_get old.blocks number ≡ Some block) (reads : CanRead model old block entries) (adds : OnlyAdds old new) where
  pub follows_branches : FollowsFirst model (block_named old block) entries (length (direct entries)) old new → FollowsBranches model number old new
  follows_branches first followed decisions unfolded due later other stood under stands is place guard then otherwise side at_place opens =
      let content = content_now old in
      let named : slice_get content.blocks number ≡ Some (block_named old block) = slice_get-map (named_block content.tokens) old.blocks number ∙ ap (option_map (named_block content.tokens)) at in
      let same : block_named old block ≡ other = get_same content.blocks number (block_named old block) other named stands in
      let alike : (b : TokenBlock) → block_named old block ≡ b → (e : Entries) → IsBlock model b e → entries ≡ e =
      λ b is_b e is_e. block_once model _ _ b entries e (subst (λ (t : TokenBlock). IsBlock model t entries) is_b reads.has.is_block) is_e in
      let found : slice_get (direct entries) place ≡ Some (OfBranch guard then otherwise) =
      subst (λ (e : Entries). slice_get (direct e) place ≡ Some (OfBranch guard then otherwise)) (sym (alike other same stood is)) at_place in
      let there = reads.named (OfBranch guard then otherwise) (contains_from_get (direct entries) place (OfBranch guard then otherwise) found) in
      let once = (names_are_once (snapshot_of new) after).names in
      let even = (names_are_once (snapshot_of old) sound).count in
      let opened : OpensIn model decisions (shown (content_now new)) (block_named old block) guard side =
      subst (λ (b : TokenBlock). OpensIn model decisions (shown (content_now new)) b guard side) (sym same) opens in
      let before = opens_back content (content_now new) (content_adds old new sound adds) even once model decisions (InRule (block_named old block).token block.rule) guard side there.0 there.1 opened in
      let open_now = first place guard then otherwise (get_below (direct entries) place (OfBranch guard then otherwise) found) found decisions under.states side before in
      inl (subst (λ (b : TokenBlock). Contains (content_now new).blocks (block_at b.token b.rule (turned b.path place side))) same open_now)

module _ (model : Model) (number : ℕ) (stored : Stored) (block : OpenBlock) (at : slice_get stored.blocks number ≡ Some block) where
  -- the block of the number can be read
  pub reads_copy : CanReadAt model stored number → (entries : Entries) × CanRead model stored block entries
  reads_copy (found, stands, reads) =
      subst (λ (b : OpenBlock). (entries : Entries) × CanRead model stored b entries) (get_same stored.blocks number found block stands at) reads

  pub reads_entries : (entries : List Entry) → CanReadAt model stored number → ((all : Entries) → AreOpenEntries model stored block all → plain_entries entries ≡ all)
      → CanRead model stored block (plain_entries entries)
  reads_entries entries can are =
      let reads = reads_copy can in
      subst (CanRead model stored block) (sym (are reads.0 reads.1.has)) reads.1

pub branches_followed : (model : Model) (number : ℕ) (block : OpenBlock) (entries : List Entry) (old new : Stored) → IsSnapshot (snapshot_of old) → IsSnapshot (snapshot_of new)
    → slice_get old.blocks number ≡ Some block → CanRead model old block (plain_entries entries) → (result : Result (Unit {0}) NetFault)
    → OnOk result (FollowsFirst model (block_named old block) (plain_entries entries) (length entries) old new) → OnOk result (OnlyAdds old new)
    → OnOk result (FollowsBranches model number old new)
branches_followed model number block entries old new sound after at reads (Ok done) first adds =
    follows_branches model number block (plain_entries entries) old new sound after at reads adds
    (subst (λ (n : ℕ). FollowsFirst model (block_named old block) (plain_entries entries) n old new) (sym (as_many entries)) first)
branches_followed model number block entries old new sound after at reads (Err fault) first adds = tt
