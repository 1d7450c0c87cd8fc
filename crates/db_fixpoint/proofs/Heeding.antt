-- Variables that are looked at.
use Rattle.std.proofs.Common.{◌≡◌, inl, inr, ◌⊎◌, ℕ, ◌+◌, ◌<◌, List, ◌∷◌, length, map, filter, Ok, Err, refl, sym, ap, ◌∙◌, subst, arith}
use Rattle.std.specs.Prelude.{◌==◌, Contains, Result, Some, slice_get, slice_index_or}
use Rattle.std.proofs.lemmas.Bool.{cases_lt}
use Rattle.std.proofs.lemmas.List.{map-append, length-map}
use Rattle.std.proofs.lemmas.List.Elements.{All-contains, filter-append}
use Rattle.std.proofs.lemmas.Option.{slice_get-get_or}
use Rattle.eu_name.specs.declared.name.Part.{Part}
use Rattle.eu_name.specs.declared.name.Part.TheVariants.{Start, End, Object}
use Rattle.eu_name.specs.declared.name.TokenName.{TokenName}
use Rattle.eu_name.specs.declared.name.VarName.{VarName}
use Rattle.eu_name.specs.declared.name.VarName.TheVariants as name
use Rattle.model_core.specs.declared.decision.Decision.{Decision}
use Rattle.model_core.specs.declared.model.Model.{Model}
use Rattle.model_core.specs.declared.rule.Guard.{Guard}
use Rattle.model_core.specs.Blocks.{TokenBlock, IsBlock, direct, OfBranch}
use Rattle.model_core.specs.Entries.{Entries}
use Rattle.model_core.specs.Lawful.{IsLawful}
use Rattle.model_core.specs.declared.rule.Slot.{Slot}
use Rattle.model_core.specs.declared.variable.Base.{Base}
use Rattle.model_core.specs.declared.variable.Base.TheVariants.{Given}
use Rattle.model_core.specs.State.{State}
use Rattle.model_core.specs.Tokens.{HasToken}
use Rattle.domain_core.specs.Domain.{Range}
use Rattle.constraint_net.specs.declared.NetFault.{NetFault}
use Rattle.constraint_net.specs.declared.NetFault.TheVariants.{Collapsed, Memory}
use Rattle.plan_defs.specs.Laws.{HaveToTurn}
use Rattle.plan_defs.specs.Terms.{InRule}
use Rattle.eu_name.proofs.Ordered.{contains_later}
use Rattle.eu_name.proofs.Members.{get_below, get_within, get_from_contains, contains_from_get, get_same}
use Rattle.db_refine.specs.Claims.{IsPostedIn}
use Rattle.model_core.specs.Content.{Content, shown}
use Rattle.db_refine.specs.Growth.{ends_before}
use Rattle.db_refine.specs.Coming.{IsWhatIsNamedThere}
use Rattle.db_refine.specs.Progress.{MissesNothing, IsUnfolded, GuardNames, AreBranchesFollowed, IsTurnFollowed}
use Rattle.db_refine.proofs.Following.{looking_misses, stale_misses}
use Rattle.db_refine.proofs.Naming.{named_there}
use Rattle.token_store.specs.Orders.{name_at}
use Rattle.token_store.specs.Tokens.{tokens_now}
use Rattle.db_store.specs.Keys.{IsKeyBelow, named_variable, named_block}
use Rattle.db_store.specs.Stores.{Stored, snapshot_of, IsSnapshot, blocks_watching}
use Rattle.db_store.specs.StoreMarks.{KeepStoreMarks}
use Rattle.db_store.specs.declared.key.OpenBlock.{OpenBlock}
use Rattle.db_store.specs.declared.key.VarKey.{VarKey}
use Rattle.db_store.specs.declared.key.VarKey.TheVariants as key
use Rattle.db_store.specs.declared.watchers.Watch.{Watch}
use Rattle.db_store.proofs.Lists.{unmapped}
use Rattle.db_store.proofs.Naming.{names_are_once, names_have_one_number}
use Rattle.db_store.proofs.Watched.{watchers_are_listed}
use Rattle.db_posting.specs.Origins.{content_now}
use Rattle.db_posting.specs.Terms.{HasTimesAt}
use Rattle.db_posting.specs.Underway.{IsStoreUnderway, OnlyAdds, GoesOnAs}
use Rattle.db_opening.proofs.Opening.{name_there}
use Rattle.db_fixpoint.specs.Branches.{StaysOnWay, FollowsBranches}
use Rattle.db_fixpoint.specs.Reading.{CanReadAt}
use Rattle.db_fixpoint.proofs.Adding.{Adds, adds_nothing, adds_both, content_adds, goes_there, goes_at, opens_back}
use Rattle.db_fixpoint.proofs.FollowedBranches.{KeepsUnderway}
use Rattle.db_fixpoint.proofs.Naming.{unfolded_blocks_can_be_read}
use Rattle.db_fixpoint.specs.Looking.{IsOnWay, HasWay, IsBlockFollowed, FollowsWatchers, TellsTurns, OwnerTakesTurns, KeepsWay, LooksAt}
use Rattle.db_fixpoint.specs.Turns.{PostsOrMarks, IsTurnOf, TakesTurns}
use Rattle.db_fixpoint.proofs.Sharing.{same_content}
use Rattle.db_fixpoint.proofs.Staying.{turns_underway, underway_more}
use Rattle.db_posting.proofs.Storing.{marks_same, marks_both}

-- ---- what a store on its way has

-- an unfolded block can be read
pub way_read : (model : Model) (stored : Stored) (unfolded number : ℕ) → IsLawful model → HasWay model stored unfolded → number < unfolded → CanReadAt model stored number
way_read model stored unfolded number lawful way below =
    unfolded_blocks_can_be_read model way.0 way.0 stored unfolded number way.1 lawful way.2.underway below

-- each token has its start and its end
pub way_times : (model : Model) (stored : Stored) (unfolded : ℕ) → HasWay model stored unfolded → (place : ℕ) → place < length (tokens_now stored.past) → HasTimesAt stored place
way_times model stored unfolded way place below =
    let content = content_now stored in
    let is = way.2.underway.justified.is_content in
    let token = name_at content.tokens place in
    let there = name_there (tokens_now stored.past) place below in
    let HasSlot : TokenName → Type 0 = λ one. (slot : Slot) × HasToken model one slot in
    let slot = All-contains HasSlot content.tokens token is.tokens there in
    let range : Base = Given (Range model.problem.start model.problem.end) in (
      below,
      (
        (is.variables (name.Token token Start)).0 (there, (range, (slot.0, slot.1, refl))),
        (is.variables (name.Token token End)).0 (there, (range, (slot.0, slot.1, refl))),
      ),
    )

pub keep_way : (model : Model) (old new : Stored) (unfolded : ℕ) → KeepsUnderway model old new → HasWay model old unfolded → HasWay model new unfolded
keep_way model old new unfolded keeps way =
    (way.0, way.1, record { once = way.2.once; underway = keeps way.0 way.0 unfolded way.1 way.2.underway })

-- ---- a block of a store that only gets more

get_back : {X : Type 0} (old new : List X) (k : ℕ) (x : X) → GoesOnAs old new → k < length old → slice_get new k ≡ Some x → slice_get old k ≡ Some x
get_back old new k x more below at =
    let was = get_within old k below in
    was.1 ∙ ap Some (get_same new k was.0 x (goes_at old new more k was.0 was.1) at)

module _ (model : Model) (lawful : IsLawful model) (old new : Stored) (sound : IsSnapshot (snapshot_of old)) (after : IsSnapshot (snapshot_of new)) (adds : OnlyAdds old new)
    (decisions : List Decision) (unfolded : ℕ) (due : List ℕ) (under : IsStoreUnderway model decisions decisions old unfolded due) (number : ℕ) (below : number < unfolded) where
  more : Adds (content_now old) (content_now new)
  more = content_adds old new sound adds

  -- an unfolded block is the same
  pub block_back : (block : TokenBlock) → slice_get (content_now new).blocks number ≡ Some block → slice_get (content_now old).blocks number ≡ Some block
  block_back block at =
      get_back (content_now old).blocks (content_now new).blocks number block more.blocks
      (let within = under.within in omega (arith, below, within, length-map old.blocks (λ (block : OpenBlock). named_block (content_now old).tokens block))) at

  guard_there : (block : TokenBlock) (entries : Entries) → slice_get (content_now old).blocks number ≡ Some block → IsBlock model block entries
      → (place : ℕ) (guard : Guard) (then otherwise : Entries) → slice_get (direct entries) place ≡ Some (OfBranch guard then otherwise)
      → IsWhatIsNamedThere (content_now old) block.token block.rule (OfBranch guard then otherwise)
  guard_there block entries at is place guard then otherwise stands =
      named_there model decisions old.net.constraints (content_now old) unfolded due lawful under.justified.is_content under.complete number block entries at (omega (arith, below)) is
      (λ slot there. under.complete.slots block entries slot (number, at, below) is there) place (OfBranch guard then otherwise) stands

  -- and stays followed
  pub followed_on : (heeded : List ℕ) → IsBlockFollowed model decisions old heeded number → IsBlockFollowed model decisions new heeded number
  followed_on heeded followed block entries at is place guard then otherwise side stands opens =
      let was = block_back block at in
      let there = guard_there block entries was is place guard then otherwise stands in
      let once = (names_are_once (snapshot_of new) after).names in
      let even = (names_are_once (snapshot_of old) sound).count in
      let before = opens_back (content_now old) (content_now new) more even once model decisions (InRule block.token block.rule) guard side there.0 there.1 opens in
      elim (followed block entries was is place guard then otherwise side stands before) [
        | inl open_there ↦ inl (goes_there (content_now old).blocks (content_now new).blocks more.blocks _ open_there)
        | inr waits ↦ inr (waits.0, waits.1, (waits.2.0, goes_at (content_now old).names (content_now new).names more.names waits.2.0 waits.0 waits.2.1, waits.2.2))
      ]

-- ---- one watcher after another

-- what is so when the first so many watchers have been looked at
pub record WatchersHeeded (model : Model) (unfolded variable count : ℕ) (old new : Stored) : Type 0 where
  pub underway : KeepsUnderway model old new
  pub followed : FollowsWatchers model unfolded variable count old new
  pub tokens : new.past ≡ old.past
  pub adds : OnlyAdds old new
  pub marks : KeepStoreMarks old new

pub heeded_none : (model : Model) (unfolded variable : ℕ) (stored : Stored) → WatchersHeeded model unfolded variable 0 stored stored
heeded_none model unfolded variable stored = record {
  underway = λ followed decisions count due under. under;
  followed = λ decisions due heeded place number under below at within. absurd (omega (arith, below));
  tokens = refl;
  adds = adds_nothing stored;
  marks = marks_same _;
}

-- who watched a variable still does, at the same place
watching_on : (variable : ℕ) (old new : List Watch) → GoesOnAs old new → GoesOnAs (blocks_watching old variable) (blocks_watching new variable)
watching_on variable old new more =
    let block : Watch → ℕ = λ (watch : Watch). watch.block in
    let kept = filter (λ (watch : Watch). watch.variable == variable) old in
    let later = filter (λ (watch : Watch). watch.variable == variable) more.0 in (
      map block later,
      ap (λ list. blocks_watching list variable) more.1
          ∙ ap (map block) (filter-append (λ (watch : Watch). watch.variable == variable) old more.0)
          ∙ map-append block kept later,
    )

pub watcher_at : (variable place : ℕ) (old new : Stored) → OnlyAdds old new → place < length (blocks_watching old.watches variable)
    → place < length (blocks_watching new.watches variable)
watcher_at variable place old new adds below =
    let was = get_within (blocks_watching old.watches variable) place below in
    get_below (blocks_watching new.watches variable) place was.0
    (goes_at (blocks_watching old.watches variable) (blocks_watching new.watches variable) (watching_on variable old.watches new.watches adds.watches) place was.0 was.1)

module _ (model : Model) (lawful : IsLawful model) (unfolded variable : ℕ) (old mid new : Stored)
    (middle : IsSnapshot (snapshot_of mid)) (after : IsSnapshot (snapshot_of new)) (place number : ℕ)
    (at : slice_get (blocks_watching mid.watches variable) place ≡ Some number)
    (so_far : WatchersHeeded model unfolded variable place old mid) where
  pub heeded_more : StaysOnWay model mid (Ok tt) new → (number < unfolded → FollowsBranches model number mid new) → new.past ≡ mid.past → OnlyAdds mid new → KeepStoreMarks mid new
      → WatchersHeeded model unfolded variable (place + 1) old new
  heeded_more stays follows tokens adds marks = record {
    underway = λ followed decisions count due under. stays followed decisions count due (so_far.underway followed decisions count due under) tt;
    followed = λ decisions due heeded k n under below found within.
        let now = so_far.underway decisions decisions unfolded due under in
        elim (cases_lt k place) [
          | inl less ↦ followed_on model lawful mid new middle after adds decisions unfolded due now n within heeded
              (so_far.followed decisions due heeded k n under less found within)
          | inr over ↦
              let here : k ≡ place = omega (arith, over, below) in
              let moved = goes_at (blocks_watching old.watches variable) (blocks_watching mid.watches variable)
              (watching_on variable old.watches mid.watches so_far.adds.watches) k n found in
              let same : n ≡ number = get_same (blocks_watching mid.watches variable) place n number (subst (λ p. slice_get (blocks_watching mid.watches variable) p ≡ Some n) here moved) at in
              let inside : number < unfolded = subst (λ m. m < unfolded) same within in
              subst (λ m. IsBlockFollowed model decisions new heeded m) (sym same) (λ block entries stands is.
              follows inside decisions decisions unfolded due heeded block entries now
              (block_back model lawful mid new middle after adds decisions unfolded due now number inside block stands) is)
        ];
    tokens = tokens ∙ so_far.tokens;
    adds = adds_both old mid new so_far.adds adds;
    marks = marks_both _ _ _ so_far.marks marks;
  }

-- where a step fails
pub heeded_fails : (model : Model) (old mid new : Stored) (result : Result (Unit {0}) NetFault) → KeepsUnderway model old mid → StaysOnWay model mid result new → StaysOnWay model old result new
heeded_fails model old mid new (Ok done) keeps stays = λ followed decisions unfolded due under none. stays followed decisions unfolded due (keeps followed decisions unfolded due under) tt
heeded_fails model old mid new (Err Collapsed) keeps stays = λ followed decisions unfolded due under none. stays followed decisions unfolded due (keeps followed decisions unfolded due under) tt
heeded_fails model old mid new (Err Memory) keeps stays = tt

-- ---- the turns of a variable's token

pub owner_below : (stored : Stored) → IsSnapshot (snapshot_of stored) → (variable place : ℕ) (part : Part) → slice_get stored.keys variable ≡ Some (key.Part place part)
    → place < length (tokens_now stored.past)
owner_below stored sound variable place part at =
    All-contains (IsKeyBelow (length (tokens_now stored.past))) stored.keys (key.Part place part) sound.placed (contains_from_get stored.keys variable (key.Part place part) at)

pub turns_keep : (model : Model) (place : ℕ) (old new : Stored) → PostsOrMarks old new → TakesTurns model place old new → KeepsWay model old new
turns_keep model place old new only turns decisions unfolded due way =
    record { once = way.once; underway = turns_underway model place old new only turns decisions decisions unfolded due way.once way.underway }

part_of_key : (names : List TokenName) (found : VarKey) (token : TokenName) (part : Part) → named_variable names found ≡ name.Token token part
    → (place : ℕ) × (found ≡ key.Part place part) × (name_at names place ≡ token)
part_of_key names (key.Global number) token part same = absurd (cc)
part_of_key names (key.Local place rule number) token part same = absurd (cc)
part_of_key names (key.Part place other) token part same =
    let is : other ≡ part = cc in
    (place, ap (key.Part place) is, cc)

-- a turn of the token is one of those that are seen to
turn_said : (model : Model) (decisions : List Decision) (state : State) (owner one other : TokenName) → (owner ≡ one) ⊎ (owner ≡ other) → HaveToTurn model decisions state one other
    → (partner : TokenName) × IsTurnOf model decisions state owner partner (ends_before other one)
turn_said model decisions state owner one other (inl same) turn =
    (other, inl (subst (λ t. HaveToTurn model decisions state t other) (sym same) turn, ap (ends_before other) (sym same)))
turn_said model decisions state owner one other (inr same) turn =
    (one, inr (subst (λ t. HaveToTurn model decisions state one t) (sym same) turn, ap (λ t. ends_before t one) (sym same)))

-- ---- looking

module _ (model : Model) (lawful : IsLawful model) (unfolded variable : ℕ) (old mid new : Stored) (sound : IsSnapshot (snapshot_of old)) (middle : IsSnapshot (snapshot_of mid))
    (stays : StaysOnWay model old (Ok tt) mid) (watched : FollowsWatchers model unfolded variable (length (blocks_watching old.watches variable)) old mid) (adds : OnlyAdds old mid)
    (keeps : KeepsWay model mid new) (owner : OwnerTakesTurns model variable mid new) (only : PostsOrMarks mid new)
    (decisions : List Decision) (due : List ℕ) (way : IsOnWay model decisions old unfolded (variable ∷ due)) where
  way_mid : IsOnWay model decisions mid unfolded (variable ∷ due)
  way_mid = record { once = way.once; underway = stays decisions decisions unfolded (variable ∷ due) way.underway tt }

  way_new : IsOnWay model decisions new unfolded (variable ∷ due)
  way_new = keeps decisions unfolded (variable ∷ due) way_mid

  abbrev now : Content
  now = content_now new

  same : content_now new ≡ content_now mid
  same = same_content mid new only

  guarded : (one : VarName) → slice_get now.names variable ≡ Some one → (block : TokenBlock) (entries : Entries) (guard : Guard) (then otherwise : Entries)
      → IsUnfolded now unfolded block → IsBlock model block entries → Contains (direct entries) (OfBranch guard then otherwise)
      → GuardNames (InRule block.token block.rule) guard one → AreBranchesFollowed model decisions now due block entries
  guarded one named block entries guard then otherwise (number, at, below) is stands names =
      let was = content_now mid in
      let at_mid : slice_get was.blocks number ≡ Some block = subst (λ (c : Content). slice_get c.blocks number ≡ Some block) same at in
      let at_old = block_back model lawful old mid sound middle adds decisions unfolded (variable ∷ due) way.underway number below block at_mid in
      let watch = way.underway.watched number block entries guard then otherwise one below at_old is stands names in
      let more_names = (content_adds old mid sound adds).names in
      let named_watch = goes_at (content_now old).names was.names more_names watch.0 one watch.1 in
      let named_mid : slice_get was.names variable ≡ Some one = subst (λ (c : Content). slice_get c.names variable ≡ Some one) same named in
      let it : watch.0 ≡ variable = names_have_one_number was one watch.0 variable (names_are_once (snapshot_of mid) middle) named_watch named_mid in
      let listed = (watchers_are_listed old.watches variable number).1
      (subst (λ v. Contains old.watches (record { variable = v; block = number })) it watch.2) in
      let place = get_from_contains (blocks_watching old.watches variable) number listed in
      let followed = watched decisions (variable ∷ due) due place.0 number way.underway (get_below (blocks_watching old.watches variable) place.0 number place.1) place.1 below
      block entries at_mid is in
      subst (λ (c : Content). AreBranchesFollowed model decisions c due block entries) (sym same) followed

  taken_by : (one : VarName) → slice_get now.names variable ≡ Some one → (token : TokenName) (part : Part) → one ≡ name.Token token part → TellsTurns part
      → (first second : TokenName) → (first ≡ token) ⊎ (second ≡ token) → HaveToTurn model decisions (shown now) first second
      → IsTurnFollowed new.net.constraints now due first second
  taken_by one named token part is tells first second either turn =
      let was = content_now mid in
      let named_mid : slice_get was.names variable ≡ Some one = subst (λ (c : Content). slice_get c.names variable ≡ Some one) same named in
      let from = unmapped (named_variable was.tokens) mid.keys variable one named_mid in
      let key_is = part_of_key was.tokens from.0 token part (from.2 ∙ is) in
      let turns = owner key_is.0 part (from.1 ∙ ap Some key_is.1) tells in
      let sees = turns decisions (record { states = way_mid.underway.states; once = way.once }) in
      let turn_mid = subst (λ (c : Content). HaveToTurn model decisions (shown c) first second) same turn in
      let owned : (name_at was.tokens key_is.0 ≡ first) ⊎ (name_at was.tokens key_is.0 ≡ second) = elim either [
        | inl here ↦ inl (key_is.2 ∙ sym here)
        | inr here ↦ inr (key_is.2 ∙ sym here)
      ] in
      let posted = sees.all (ends_before second first) (turn_said model decisions (shown was) (name_at was.tokens key_is.0) first second owned turn_mid) in
      inl (subst (λ (c : Content). IsPostedIn c.names new.net.constraints (ends_before second first)) (sym same) posted)

  taken : (one : VarName) → slice_get now.names variable ≡ Some one → (token first second : TokenName)
      → (one ≡ name.Token token Object) ⊎ ((one ≡ name.Token token Start) ⊎ (one ≡ name.Token token End))
      → (first ≡ token) ⊎ (second ≡ token) → HaveToTurn model decisions (shown now) first second
      → IsTurnFollowed new.net.constraints now due first second
  taken one named token first second (inl is) either turn = taken_by one named token Object is tt first second either turn
  taken one named token first second (inr (inl is)) either turn = taken_by one named token Start is tt first second either turn
  taken one named token first second (inr (inr is)) either turn = taken_by one named token End is tt first second either turn

  complete : MissesNothing model decisions new.net.constraints now unfolded due
  complete = elim (cases_lt variable (length now.names)) [
    | inl below ↦
        let one = get_within now.names variable below in
        looking_misses model decisions new.net.constraints now unfolded variable due way_new.underway.complete one.0 one.1 (guarded one.0 one.1) (taken one.0 one.1)
    | inr past ↦ stale_misses model decisions new.net.constraints now unfolded variable due way_new.underway.complete past
  ]

  pub looked : IsOnWay model decisions new unfolded due
  looked = record {
    once = way.once;
    underway = record {
      justified = way_new.underway.justified;
      complete = complete;
      states = way_new.underway.states;
      preds = way_new.underway.preds;
      watched = way_new.underway.watched;
      within = way_new.underway.within;
    };
  }

-- where looking fails
pub look_fails : (model : Model) (unfolded variable : ℕ) (old new : Stored) (fault : NetFault) → StaysOnWay model old (Err fault) new → LooksAt model unfolded variable old (Err fault) new
look_fails model unfolded variable old new Collapsed stays = λ decisions due way. stays decisions decisions unfolded (variable ∷ due) way.underway tt
look_fails model unfolded variable old new Memory stays = tt

-- looking keeps some way
pub look_way : (model : Model) (unfolded variable : ℕ) (old new : Stored) → LooksAt model unfolded variable old (Ok tt) new → HasWay model old unfolded → HasWay model new unfolded
look_way model unfolded variable old new looks way = (
  way.0,
  way.1,
  looks way.0 way.1 (record {
    once = way.2.once;
    underway = underway_more model way.0 way.0 old unfolded way.1 (variable ∷ way.1) (λ number there. contains_later variable number way.1 there) way.2.underway;
  }),
)

pub watcher_read : (watches : List Watch) (list : List ℕ) (variable place : ℕ) → list ≡ blocks_watching watches variable → place < length (blocks_watching watches variable)
    → (number : ℕ) → number ≡ slice_index_or list place number → slice_get (blocks_watching watches variable) place ≡ Some number
watcher_read watches list variable place is below number read =
    slice_get-get_or (blocks_watching watches variable) place number below ∙ ap Some (ap (λ (l : List ℕ). slice_index_or l place number) (sym is) ∙ sym read)
