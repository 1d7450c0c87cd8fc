-- What the items in a block say is posted, and what its guards name is watched, one entry after another.
use Rattle.std.proofs.Common.{◌≡◌, ℕ, ◌<◌, ◌≤◌, ◌+◌, zero, suc, List, [], ◌∷◌, ◌++◌, length, get_or, Some, Ok, Err, ◌⊎◌, inl, inr, refl, sym, ap, ◌∙◌, subst, arith}
use Rattle.std.specs.Prelude.{Contains, Result, OnOk, slice_get}
use Rattle.std.specs.declared.alloc.AllocError.{AllocError}
use Rattle.std.proofs.lemmas.Bool.{cases_lt}
use Rattle.std.proofs.lemmas.List.Elements.{Contains-push}
use Rattle.std.proofs.lemmas.Option.{slice_get-get_or}
use Rattle.eu_name.specs.declared.name.TokenName.{TokenName}
use Rattle.eu_name.specs.declared.name.VarName.{VarName}
use Rattle.model_core.specs.declared.decision.Decision.{Decision}
use Rattle.model_core.specs.declared.item.Item as what
use Rattle.model_core.specs.declared.item.Term.{Term}
use Rattle.model_core.specs.declared.model.Model.{Model}
use Rattle.model_core.specs.declared.rule.Entry.{Entry}
use Rattle.model_core.specs.declared.rule.Entry.TheVariants as entry
use Rattle.model_core.specs.declared.rule.Guard.{Guard}
use Rattle.model_core.specs.Block.{plain_entries}
use Rattle.model_core.specs.Blocks.{TokenBlock, Direct, direct, OfSlot, OfLocal, OfItem, OfBranch}
use Rattle.model_core.specs.Decided.{IsTaken}
use Rattle.model_core.specs.Entries.{Entries}
use Rattle.model_core.specs.Kinds.{OfRule}
use Rattle.model_core.specs.Lawful.{IsLawful}
use Rattle.model_core.specs.Standing.{StandsAt}
use Rattle.narrow_core.specs.declared.field.Field.{Field}
use Rattle.constraint_net.specs.declared.constraint.NetArg.TheVariants.{Var, Lit}
use Rattle.rule_engine.proofs.Limits.{as_many}
use Rattle.rule_engine.proofs.Listing.{standing}
use Rattle.token_store.specs.Tokens.{tokens_now}
use Rattle.plan_defs.specs.Claims.{Claim, ItemSays}
use Rattle.plan_defs.specs.Support.{one_side, other_side}
use Rattle.plan_defs.specs.Terms.{Context, InRule, Argument, Value, Variable, Means}
use Rattle.eu_name.proofs.Members.{get_below, get_from_contains, contains_from_get}
use Rattle.model_core.specs.Content.{Content, IsContent}
use Rattle.db_refine.specs.Coming.{IsTermThere}
use Rattle.model_core.proofs.Lawful.{rule_lawful}
use Rattle.db_store.specs.Keys.{named_block}
use Rattle.db_store.specs.StoreMarks.{KeepStoreMarks}
use Rattle.db_store.specs.Stores.{Stored, snapshot_of, IsSnapshot}
use Rattle.db_store.specs.declared.key.OpenBlock.{OpenBlock}
use Rattle.db_store.specs.declared.watchers.Watch.{Watch}
use Rattle.db_posting.specs.Counting.{AreTokenStates}
use Rattle.db_posting.specs.declared.origin.Origin.{Origin}
use Rattle.db_posting.specs.Origins.{content_now, origin_context}
use Rattle.db_posting.specs.Postable.{CanPostItem, IsItemNamed}
use Rattle.db_posting.specs.Posted.{PostsClaims, OnlyPosts}
use Rattle.db_posting.specs.Tables.{HaveTables}
use Rattle.db_posting.specs.Terms.{CanStand, IsTermArgument}
use Rattle.db_posting.proofs.Allowing.{lawful_items_can_be_posted}
use Rattle.db_posting.proofs.Meaning.{meant}
use Rattle.db_posting.proofs.Present.{what_is_there_is_named}
use Rattle.db_posting.proofs.Said.{posts_nothing, posts_same, posts_both}
use Rattle.db_posting.proofs.Storing.{only_both, marks_same, marks_both}
use Rattle.db_posting.specs.Underway.{IsWatched}
use Rattle.db_opening.proofs.Opening.{name_there}
use Rattle.db_fixpoint.specs.Reading.{block_named, CanRead, IsGuardNamed, AreGuardsNamed}
use Rattle.db_fixpoint.specs.Unfolding.{BlockSays, PostsEntries, OnlyWatches, IsTermWatched, IsGuardWatched, AreGuardsWatched}
use Rattle.db_fixpoint.proofs.Adding.{goes_nowhere, goes_both, goes_there}
use Rattle.db_fixpoint.proofs.FollowedBranches.{guard_stands, guard_there, states_same, token_below}

-- ---- entries that are read

-- what an entry is where it stands
abbrev pub direct_of : Entry → Direct
direct_of (entry.Slot slot) = OfSlot slot
direct_of (entry.Local local) = OfLocal local
direct_of (entry.Item item) = OfItem item
direct_of (entry.Branch guard then otherwise) = OfBranch guard then otherwise

standing_at : (entries : List Entry) (k : ℕ) (read : Entry) → slice_get entries k ≡ Some read → slice_get (standing entries) k ≡ Some (direct_of read)
standing_at [] k read at = absurd (cc)
standing_at (entry.Slot slot ∷ more) zero read at = let same : entry.Slot slot ≡ read = cc in ap (λ (e : Entry). Some (direct_of e)) same
standing_at (entry.Slot slot ∷ more) (suc k) read at = standing_at more k read at
standing_at (entry.Local local ∷ more) zero read at = let same : entry.Local local ≡ read = cc in ap (λ (e : Entry). Some (direct_of e)) same
standing_at (entry.Local local ∷ more) (suc k) read at = standing_at more k read at
standing_at (entry.Item item ∷ more) zero read at = let same : entry.Item item ≡ read = cc in ap (λ (e : Entry). Some (direct_of e)) same
standing_at (entry.Item item ∷ more) (suc k) read at = standing_at more k read at
standing_at (entry.Branch guard then otherwise ∷ more) zero read at =
    let same : entry.Branch guard then otherwise ≡ read = cc in ap (λ (e : Entry). Some (direct_of e)) same
standing_at (entry.Branch guard then otherwise ∷ more) (suc k) read at = standing_at more k read at

item_of : (read : Entry) (item : what.Item) → direct_of read ≡ OfItem item → read ≡ entry.Item item
item_of (entry.Item other) item same = let e : other ≡ item = cc in ap entry.Item e
item_of (entry.Slot slot) item same = absurd (cc)
item_of (entry.Local local) item same = absurd (cc)
item_of (entry.Branch guard then otherwise) item same = absurd (cc)

branch_of : (read : Entry) (guard : Guard) (then otherwise : Entries) → direct_of read ≡ OfBranch guard then otherwise → read ≡ entry.Branch guard then otherwise
branch_of (entry.Branch guard' then' otherwise') guard then otherwise same =
    let g : guard' ≡ guard = cc in
    let t : then' ≡ then = cc in
    let o : otherwise' ≡ otherwise = cc in
    (λ i. entry.Branch (g i) (t i) (o i))
branch_of (entry.Slot slot) guard then otherwise same = absurd (cc)
branch_of (entry.Local local) guard then otherwise same = absurd (cc)
branch_of (entry.Item item) guard then otherwise same = absurd (cc)

module _ (entries : List Entry) (place : ℕ) (read : Entry) (below : place < length entries) (is : read ≡ get_or entries place read) where
  pub read_stands : slice_get (standing entries) place ≡ Some (direct_of read)
  read_stands = standing_at entries place read (slice_get-get_or entries place read below ∙ ap (λ (e : Entry). Some e) (sym is))

  stood : (what : Direct) → slice_get (standing entries) place ≡ Some what → direct_of read ≡ what
  stood what at = let e : Some (direct_of read) ≡ Some what = sym read_stands ∙ at in cc

  item_stood : (item : what.Item) → slice_get (standing entries) place ≡ Some (OfItem item) → read ≡ entry.Item item
  item_stood item at = item_of read item (stood (OfItem item) at)

  branch_stood : (guard : Guard) (then otherwise : Entries) → slice_get (standing entries) place ≡ Some (OfBranch guard then otherwise) → read ≡ entry.Branch guard then otherwise
  branch_stood guard then otherwise at = branch_of read guard then otherwise (stood (OfBranch guard then otherwise) at)

  pub item_stands : (item : what.Item) → read ≡ entry.Item item → Contains (standing entries) (OfItem item)
  item_stands item sort = contains_from_get (standing entries) place (OfItem item) (read_stands ∙ ap (λ (e : Entry). Some (direct_of e)) sort)

  pub branch_stands : (guard : Guard) (then otherwise : Entries) → read ≡ entry.Branch guard then otherwise → Contains (standing entries) (OfBranch guard then otherwise)
  branch_stands guard then otherwise sort = contains_from_get (standing entries) place (OfBranch guard then otherwise) (read_stands ∙ ap (λ (e : Entry). Some (direct_of e)) sort)

-- ---- items

-- an item among the first so many entries says the claim
abbrev pub FirstSay : Model → List Decision → TokenBlock → Entries → ℕ → Claim → Type 0
FirstSay model decisions block entries count claim =
    (place : ℕ) × (place < count) × ((item : what.Item) × (slice_get (direct entries) place ≡ Some (OfItem item))
    × ItemSays model (IsTaken decisions) (InRule block.token block.rule) item claim)

-- what a store has become when what the first so many entries say was posted
pub record PostedTo (model : Model) (block : OpenBlock) (entries : Entries) (count : ℕ) (old new : Stored) : Type 0 where
  pub posted : (decisions : List Decision) → AreTokenStates model decisions (snapshot_of old)
      → PostsClaims (content_now old).names (FirstSay model decisions (block_named old block) entries count) old.net.constraints new.net.constraints
  pub only : OnlyPosts old new
  pub marks : KeepStoreMarks old new

pub posted_none : (model : Model) (block : OpenBlock) (entries : Entries) (stored : Stored) → PostedTo model block entries 0 stored stored
posted_none model block entries stored = record {
  posted = λ decisions states. posts_nothing (content_now stored).names (FirstSay model decisions (block_named stored block) entries 0) stored.net.constraints
      (λ claim says. absurd (let below = says.1 in omega (arith, below)));
  only = refl;
  marks = marks_same _;
}

pub content_same : (old new : Stored) → OnlyPosts old new → content_now new ≡ content_now old
content_same old new only = ap content_now only

pub past_same : (old new : Stored) → OnlyPosts old new → new.past ≡ old.past
past_same old new only = ap (λ (stored : Stored). stored.past) only

says_moved : (model : Model) (decisions : List Decision) (block : OpenBlock) (item : what.Item) (old mid new : Stored) → OnlyPosts old mid → AreTokenStates model decisions (snapshot_of old)
    → (AreTokenStates model decisions (snapshot_of mid) → PostsClaims (content_now mid).names
    (ItemSays model (IsTaken decisions) (InRule (block_named mid block).token block.rule) item) mid.net.constraints new.net.constraints)
    → PostsClaims (content_now old).names (ItemSays model (IsTaken decisions) (InRule (block_named old block).token block.rule) item) mid.net.constraints new.net.constraints
says_moved model decisions block item old mid new only states posts =
    subst (λ (content : Content). PostsClaims content.names
    (ItemSays model (IsTaken decisions) (InRule (named_block content.tokens block).token block.rule) item) mid.net.constraints new.net.constraints) (content_same old mid only)
    (posts (states_same model old mid (past_same old mid only) decisions states))

module _ (model : Model) (block : OpenBlock) (entries : List Entry) (place : ℕ) (read : Entry) (below : place < length entries) (is : read ≡ get_or entries place read)
    (old mid new : Stored) (so_far : PostedTo model block (plain_entries entries) place old mid) where
  -- no item stands there
  pub posted_other : ((item : what.Item) → read ≡ entry.Item item → ⊥) → PostedTo model block (plain_entries entries) (place + 1) old mid
  posted_other none = record {
    posted = λ decisions states. posts_same (content_now old).names (FirstSay model decisions (block_named old block) (plain_entries entries) place)
        (FirstSay model decisions (block_named old block) (plain_entries entries) (place + 1)) old.net.constraints mid.net.constraints
        (λ claim says. (says.0, (let less = says.1 in omega (arith, less)), says.2))
        (λ claim says. elim (cases_lt says.0 place) [
          | inl earlier ↦ (says.0, earlier, says.2)
          | inr past ↦ (
              let less = says.1 in
              let same : says.0 ≡ place = omega (arith, less, past) in
              absurd (none says.2.0 (item_stood entries place read below is says.2.0 (subst (λ (n : ℕ). slice_get (standing entries) n ≡ Some (OfItem says.2.0)) same says.2.1))))
        ])
        (so_far.posted decisions states);
    only = so_far.only;
    marks = so_far.marks;
  }

  -- an item stands there, and what it says has been posted
  pub posted_item : (item : what.Item) → read ≡ entry.Item item
      → ((decisions : List Decision) → AreTokenStates model decisions (snapshot_of mid) → PostsClaims (content_now mid).names
      (ItemSays model (IsTaken decisions) (InRule (block_named mid block).token block.rule) item) mid.net.constraints new.net.constraints)
      → OnlyPosts mid new → KeepStoreMarks mid new → PostedTo model block (plain_entries entries) (place + 1) old new
  posted_item item sort posts only marks =
      let moved : (decisions : List Decision) → AreTokenStates model decisions (snapshot_of old) → PostsClaims (content_now old).names
      (ItemSays model (IsTaken decisions) (InRule (block_named old block).token block.rule) item) mid.net.constraints new.net.constraints = (λ decisions states. says_moved model decisions block item old mid new so_far.only states (posts decisions)) in
      let stands : slice_get (standing entries) place ≡ Some (OfItem item) = read_stands entries place read below is ∙ ap (λ (e : Entry). Some (direct_of e)) sort in
      record {
        posted = λ decisions states.
            let First = FirstSay model decisions (block_named old block) (plain_entries entries) place in
            let This = ItemSays model (IsTaken decisions) (InRule (block_named old block).token block.rule) item in
            posts_same (content_now old).names (λ claim. First claim ⊎ This claim)
            (FirstSay model decisions (block_named old block) (plain_entries entries) (place + 1)) old.net.constraints new.net.constraints
            (λ claim either. elim either [
              | inl says ↦ (says.0, (let less = says.1 in omega (arith, less)), says.2)
              | inr says ↦ (place, (omega arith), (item, stands, says))
            ])
            (λ claim says. elim (cases_lt says.0 place) [
              | inl earlier ↦ inl (says.0, earlier, says.2)
              | inr past ↦ (
                  let less = says.1 in
                  let same : says.0 ≡ place = omega (arith, less, past) in
                  let here = item_stood entries place read below is says.2.0 (subst (λ (n : ℕ). slice_get (standing entries) n ≡ Some (OfItem says.2.0)) same says.2.1) in
                  let one : entry.Item says.2.0 ≡ entry.Item item = sym here ∙ sort in
                  let alike : says.2.0 ≡ item = cc in
                  inr (subst (λ (it : what.Item). ItemSays model (IsTaken decisions) (InRule (block_named old block).token block.rule) it claim) alike says.2.2))
            ])
            (posts_both (content_now old).names First This old.net.constraints mid.net.constraints new.net.constraints (so_far.posted decisions states) (moved decisions states));
        only = only_both old mid new so_far.only only;
        marks = marks_both _ _ _ so_far.marks marks;
      }

-- all entries have been gone through
pub posted_all : (model : Model) (block : OpenBlock) (entries : List Entry) (count : ℕ) (old new : Stored) → length entries ≤ count → PostedTo model block (plain_entries entries) count old new
    → PostsEntries model (block_named old block) (plain_entries entries) old new
posted_all model block entries count old new long all decisions states =
    posts_same (content_now old).names (FirstSay model decisions (block_named old block) (plain_entries entries) count) (BlockSays model decisions (block_named old block) (plain_entries entries))
    old.net.constraints new.net.constraints
    (λ claim says. (says.2.0, contains_from_get (standing entries) says.0 (OfItem says.2.0) says.2.1, says.2.2))
    (λ claim says.
    let at = get_from_contains (standing entries) (OfItem says.0) says.1 in
    let within = get_below (standing entries) at.0 (OfItem says.0) at.1 in
    (at.0, (omega (arith, within, long, as_many entries)), (says.0, at.1, says.2)))
    (all.posted decisions states)

-- what an item in the block needs to be posted
module _ (model : Model) (lawful : IsLawful model) (stored : Stored) (block : OpenBlock) (entries : Entries) (reads : CanRead model stored block entries) (item : what.Item)
    (stands : Contains (direct entries) (OfItem item)) where
  pub item_postable : (tables : List Field) → HaveTables model tables → CanPostItem tables (InRule (block_named stored block).token block.rule) item
  item_postable tables have =
      let is = reads.has.is_block in
      let place = get_from_contains (direct entries) (OfItem item) stands in
      let at : StandsAt is.rule.top block.path place.0 (OfItem item) = record { block = entries; way = is.way; stands = place.1 } in
      let of = ((rule_lawful model lawful is.slot.pred block.rule is.rule is.has_rule).entries block.path place.0 (OfItem item) at).1 in
      lawful_items_can_be_posted model tables (InRule (block_named stored block).token block.rule) (OfRule is.slot.pred is.rule) item lawful have is.has_rule of.0

  pub item_named : IsSnapshot (snapshot_of stored) → IsContent model (content_now stored) → IsItemNamed (content_now stored) (InRule (block_named stored block).token block.rule) item
  item_named sound content =
      what_is_there_is_named model (content_now stored) (block_named stored block).token block.rule item content
      (name_there (tokens_now stored.past) block.token (token_below model stored sound block reads.has.is_open)) (reads.named (OfItem item) stands)

-- so it is where more has been posted
module _ (model : Model) (block : OpenBlock) (item : what.Item) (old new : Stored) (only : OnlyPosts old new) where
  pub postable_on : HaveTables model old.net.tables → ((tables : List Field) → HaveTables model tables → CanPostItem tables (InRule (block_named old block).token block.rule) item)
      → CanPostItem new.net.tables (InRule (block_named new block).token block.rule) item
  postable_on have can =
      let tables : new.net.tables ≡ old.net.tables = ap (λ (stored : Stored). stored.net.tables) only in
      subst (λ (content : Content). CanPostItem new.net.tables (InRule (named_block content.tokens block).token block.rule) item) (sym (content_same old new only))
      (can new.net.tables (subst (HaveTables model) (sym tables) have))

  pub named_on : IsItemNamed (content_now old) (InRule (block_named old block).token block.rule) item → IsItemNamed (content_now new) (InRule (block_named new block).token block.rule) item
  named_on named = subst (λ (content : Content). IsItemNamed content (InRule (named_block content.tokens block).token block.rule) item) (sym (content_same old new only)) named

-- what can be read can still be where more is posted
pub reads_posted : (model : Model) (block : OpenBlock) (entries : Entries) (old new : Stored) → OnlyPosts old new → CanRead model old block entries → CanRead model new block entries
reads_posted model block entries old new only reads = subst (λ (stored : Stored). CanRead model stored block entries) (sym only) (record {
  has = record { is_open = reads.has.is_open; preds = reads.has.preds; is_block = reads.has.is_block };
  roots = reads.roots;
  named = reads.named;
})

-- ---- guards

pub watches_nothing : (stored : Stored) → OnlyWatches stored stored
watches_nothing stored = record { same = refl; goes = goes_nowhere stored.watches stored.watches refl }

pub watches_both : (old mid new : Stored) → OnlyWatches old mid → OnlyWatches mid new → OnlyWatches old new
watches_both old mid new one other = record {
  same = other.same ∙ ap (λ (stored : Stored). record stored { watches = new.watches }) one.same;
  goes = goes_both old.watches mid.watches new.watches one.goes other.goes;
}

pub watches_more : (old new : Stored) (watch : Watch) → new ≡ record old { watches = old.watches ++ watch ∷ [] } → OnlyWatches old new
watches_more old new watch is =
    let grown : new.watches ≡ old.watches ++ watch ∷ [] = ap (λ (stored : Stored). stored.watches) is in
    record { same = is ∙ ap (λ (list : List Watch). record old { watches = list }) (sym grown); goes = (watch ∷ [], grown) }

-- what is watched is watched still
pub watched_on : (old new : Stored) → OnlyWatches old new → (number : ℕ) (name : VarName) → IsWatched (content_now old) old.watches number name → IsWatched (content_now new) new.watches number name
watched_on old new only number name (variable, at, there) =
    (variable, subst (λ (content : Content). slice_get content.names variable ≡ Some name) (sym (ap content_now only.same)) at, goes_there old.watches new.watches only.goes _ there)

-- the variable that a term is
module _ (content : Content) (context : Context) (term : Term) (variable : ℕ) (is : IsTermArgument content context term (Var variable)) where
  variable_at : (name : VarName) → Means context term (Variable name) → slice_get content.names variable ≡ Some name
  variable_at name means =
      let found = is (Variable name) means in
      let e : Var variable ≡ Var found.0 = found.1 in
      let same : found.0 ≡ variable = cc in
      subst (λ (n : ℕ). slice_get content.names n ≡ Some name) same found.2

  variable_of : (argument : Argument) → Means context term argument → variable < length content.names
  variable_of (Value value) means = absurd (let e : Var variable ≡ Lit value = is (Value value) means in cc)
  variable_of (Variable name) means = get_below content.names variable name (variable_at name means)

  pub variable_below : CanStand context term → variable < length content.names
  variable_below stands = let means = meant context term stands in variable_of means.0 means.1

-- it is watched from now on
pub term_watched : (old new : Stored) (number variable : ℕ) (context : Context) (term : Term) → IsTermArgument (content_now old) context term (Var variable)
    → (result : Result (Unit {0}) AllocError) → OnOk result (new ≡ record old { watches = old.watches ++ record { variable = variable; block = number } ∷ [] })
    → OnOk result (IsTermWatched new number context term)
term_watched old new number variable context term is (Ok done) same = λ name means. (
  variable,
  subst (λ (content : Content). slice_get content.names variable ≡ Some name) (sym (ap content_now same)) (variable_at (content_now old) context term variable is name means),
  subst (λ (list : List Watch). Contains list (record { variable = variable; block = number })) (sym (ap (λ (stored : Stored). stored.watches) same))
      (Contains-push old.watches (record { variable = variable; block = number })),
)
term_watched old new number variable context term is (Err none) same = tt

-- what is there is there still
pub there_watched : (old new : Stored) → OnlyWatches old new → (origin : Origin) (term other : Term) → other ≡ term → IsTermThere (content_now old) (origin_context (content_now old).tokens origin) term
    → IsTermThere (content_now new) (origin_context (content_now new).tokens origin) other
there_watched old new only origin term other same there =
    subst (λ (content : Content). IsTermThere content (origin_context content.tokens origin) other) (sym (ap content_now only.same))
    (subst (IsTermThere (content_now old) (origin_context (content_now old).tokens origin)) (sym same) there)

-- both terms of a guard are watched
pub guard_watched : (old mid new : Stored) (number : ℕ) (origin : Origin) (guard : Guard) (s t : Term) → s ≡ one_side guard → t ≡ other_side guard → OnlyWatches old mid
    → IsTermWatched mid number (origin_context (content_now old).tokens origin) s → (result : Result (Unit {0}) AllocError) → OnlyWatches mid new
    → OnOk result (IsTermWatched new number (origin_context (content_now mid).tokens origin) t)
    → OnOk result (IsGuardWatched new number (origin_context (content_now old).tokens origin) guard)
guard_watched old mid new number origin guard s t one other first watched (Ok done) second last = λ name names.
    let context = origin_context (content_now old).tokens origin in
    let told = subst (λ (term : Term). IsTermWatched mid number context term) one watched in
    let tokens : (content_now mid).tokens ≡ (content_now old).tokens = ap (λ (stored : Stored). (content_now stored).tokens) first.same in
    let later = subst (λ (term : Term). IsTermWatched new number context term) other
    (subst (λ (list : List TokenName). IsTermWatched new number (origin_context list origin) t) tokens last) in
    elim names [
      | inl means ↦ watched_on mid new second number name (told name means)
      | inr means ↦ later name means
    ]
guard_watched old mid new number origin guard s t one other first watched (Err none) second last = tt

-- what a store has become when the guards among the first so many entries are watched
pub record WatchedTo (number : ℕ) (block : TokenBlock) (entries : Entries) (count : ℕ) (old new : Stored) : Type 0 where
  pub watched : (place : ℕ) (guard : Guard) (then otherwise : Entries) → place < count → slice_get (direct entries) place ≡ Some (OfBranch guard then otherwise)
      → IsGuardWatched new number (InRule block.token block.rule) guard
  pub only : OnlyWatches old new
  pub marks : KeepStoreMarks old new

pub watched_none : (number : ℕ) (block : TokenBlock) (entries : Entries) (stored : Stored) → WatchedTo number block entries 0 stored stored
watched_none number block entries stored = record {
  watched = λ place guard then otherwise below stands. absurd (omega (arith, below));
  only = watches_nothing stored;
  marks = marks_same _;
}

module _ (number : ℕ) (block : TokenBlock) (entries : List Entry) (place : ℕ) (read : Entry) (below : place < length entries) (is : read ≡ get_or entries place read)
    (old mid new : Stored) (so_far : WatchedTo number block (plain_entries entries) place old mid) where
  -- no branch stands there
  pub watched_other : ((guard : Guard) (then otherwise : Entries) → read ≡ entry.Branch guard then otherwise → ⊥) → WatchedTo number block (plain_entries entries) (place + 1) old mid
  watched_other none = record {
    watched = λ at guard then otherwise before stands. elim (cases_lt at place) [
      | inl earlier ↦ so_far.watched at guard then otherwise earlier stands
      | inr past ↦ (
          let same : at ≡ place = omega (arith, before, past) in
          absurd (none guard then otherwise (branch_stood entries place read below is guard then otherwise
          (subst (λ (n : ℕ). slice_get (standing entries) n ≡ Some (OfBranch guard then otherwise)) same stands))))
    ];
    only = so_far.only;
    marks = so_far.marks;
  }

  -- a branch stands there, whose guard is watched
  pub watched_branch : (guard : Guard) (then otherwise : Entries) → read ≡ entry.Branch guard then otherwise → IsGuardWatched new number (InRule block.token block.rule) guard
      → OnlyWatches mid new → KeepStoreMarks mid new → WatchedTo number block (plain_entries entries) (place + 1) old new
  watched_branch guard then otherwise sort watched only marks = record {
    watched = λ at other then' otherwise' before stands. elim (cases_lt at place) [
      | inl earlier ↦ (λ name names. watched_on mid new only number name (so_far.watched at other then' otherwise' earlier stands name names))
      | inr past ↦ (
          let same : at ≡ place = omega (arith, before, past) in
          let here = branch_stood entries place read below is other then' otherwise' (subst (λ (n : ℕ). slice_get (standing entries) n ≡ Some (OfBranch other then' otherwise')) same stands) in
          let one : entry.Branch guard then otherwise ≡ entry.Branch other then' otherwise' = sym sort ∙ here in
          let alike : guard ≡ other = cc in
          subst (IsGuardWatched new number (InRule block.token block.rule)) alike watched)
    ];
    only = watches_both old mid new so_far.only only;
    marks = marks_both _ _ _ so_far.marks marks;
  }

pub watched_all : (number : ℕ) (block : TokenBlock) (entries : List Entry) (count : ℕ) (old new : Stored) → length entries ≤ count → WatchedTo number block (plain_entries entries) count old new
    → AreGuardsWatched new number block (plain_entries entries)
watched_all number block entries count old new long all guard then otherwise stands =
    let at = get_from_contains (standing entries) (OfBranch guard then otherwise) stands in
    let within = get_below (standing entries) at.0 (OfBranch guard then otherwise) at.1 in
    all.watched at.0 guard then otherwise (omega (arith, within, long, as_many entries)) at.1

-- so it is said where other things are watched already
module _ (block : OpenBlock) (guard : Guard) (old new : Stored) (only : OnlyWatches old new) where
  pub guard_named_on : IsGuardNamed (content_now old) (InRule (block_named old block).token block.rule) guard → IsGuardNamed (content_now new) (InRule (block_named new block).token block.rule) guard
  guard_named_on named = subst (λ (content : Content). IsGuardNamed content (InRule (named_block content.tokens block).token block.rule) guard) (sym (ap content_now only.same)) named

  pub guard_watched_as : (later : Stored) (number : ℕ) → IsGuardWatched later number (InRule (block_named new block).token block.rule) guard
      → IsGuardWatched later number (InRule (block_named old block).token block.rule) guard
  guard_watched_as later number watched =
      subst (λ (content : Content). IsGuardWatched later number (InRule (named_block content.tokens block).token block.rule) guard) (ap content_now only.same) watched

-- the guards of a block that can be read are named
pub guards_named : (model : Model) (stored : Stored) (block : OpenBlock) (entries : Entries) → IsLawful model → IsSnapshot (snapshot_of stored) → CanRead model stored block entries
    → AreGuardsNamed (content_now stored) (block_named stored block) entries
guards_named model stored block entries lawful sound reads guard then otherwise stands =
    let at = get_from_contains (direct entries) (OfBranch guard then otherwise) stands in
    let can = guard_stands model lawful stored sound block entries reads at.0 guard then otherwise at.1 in
    let there = guard_there model lawful stored sound block entries reads at.0 guard then otherwise at.1 in
    record { one_stands = can.0; other_stands = can.1; one_there = there.0; other_there = there.1 }
