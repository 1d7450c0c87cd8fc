-- The tokens that the slots in a block ask for.
use Rattle.std.proofs.Common.{◌≡◌, ℕ, ◌<◌, ◌+◌, List, [], ◌∷◌, length, take, get_or, Some, Ok, Err, ◌⊎◌, inl, inr, sym, subst}
use Rattle.std.specs.Prelude.{All, Contains, Result, OnOk, slice_get}
use Rattle.std.proofs.lemmas.List.{take_more}
use Rattle.std.proofs.lemmas.List.Elements.{All-get_or, All-map, All-nil, All-push, All-weaker, All-contains}
use Rattle.eu_name.specs.declared.name.TokenName.{TokenName}
use Rattle.model_core.specs.declared.decision.Decision.{Decision}
use Rattle.model_core.specs.declared.decision.Decision.TheVariants.{Activate, Merge, Reject}
use Rattle.model_core.specs.declared.model.Model.{Model}
use Rattle.model_core.specs.declared.rule.Slot.{Slot}
use Rattle.model_core.specs.Blocks.{TokenBlock, IsBlock, Direct, direct, OfSlot, OfLocal, OfItem, OfBranch}
use Rattle.model_core.specs.Decided.{IsTaken, IsRejected}
use Rattle.model_core.specs.Entries.{Entries}
use Rattle.model_core.specs.Lawful.{IsLawful}
use Rattle.model_core.specs.Standing.{StandsAt}
use Rattle.model_core.specs.Tokens.{HasToken, slot_token}
use Rattle.rule_engine.specs.Contents.{AreAdditions}
use Rattle.rule_engine.specs.Lists.{slots_in}
use Rattle.rule_engine.specs.declared.block.Additions.{Additions}
use Rattle.token_store.specs.Tokens.{tokens_now, token_names}
use Rattle.constraint_net.specs.declared.NetFault.{NetFault}
use Rattle.constraint_net.specs.declared.NetFault.TheVariants.{Collapsed, Memory}
use Rattle.plan_defs.proofs.Lower.{supported_further}
use Rattle.eu_name.proofs.Members.{get_from_contains, contains_from_get}
use Rattle.plan_defs.proofs.Members.{all_from_get}
use Rattle.eu_name.proofs.Ordered.{contains_head, contains_later, contains_cases, contains_none}
use Rattle.model_core.specs.Content.{Content, shown}
use Rattle.model_core.proofs.Blocks.{block_once}
use Rattle.model_core.proofs.Lawful.{rule_lawful, has_slot_token}
use Rattle.eu_name.proofs.Places.{contains_map}
use Rattle.db_refine.proofs.Supporting.{slot_supported}
use Rattle.db_store.specs.Keys.{named_block}
use Rattle.db_store.specs.StoreMarks.{KeepStoreMarks}
use Rattle.db_store.specs.Stores.{Stored, snapshot_of, IsSnapshot}
use Rattle.db_store.specs.declared.key.OpenBlock.{OpenBlock}
use Rattle.db_posting.specs.Origins.{content_now}
use Rattle.db_opening.specs.Arriving.{AskForToken}
use Rattle.db_posting.specs.Underway.{IsStoreUnderway, StaysUnderway, OnlyAdds}
use Rattle.db_posting.specs.Wanted.{ArePreds}
use Rattle.db_opening.proofs.Opening.{named_at}
use Rattle.db_fixpoint.specs.Reading.{block_named, AreOpenEntries}
use Rattle.db_fixpoint.specs.Unfolding.{slot_tokens, AskForTokens, AreAllKnown}
use Rattle.db_fixpoint.proofs.Adding.{Adds, adds_nothing, adds_both, content_adds, further_on, goes_there}
use Rattle.db_posting.proofs.Storing.{marks_same, marks_both}

-- ---- slots by their numbers

pub slot_listed : (stand : List Direct) (number : ℕ) → Contains stand (OfSlot number) → Contains (slots_in stand) number
slot_listed [] number there = absurd (contains_none (OfSlot number) there)
slot_listed (OfSlot slot ∷ more) number there = elim (contains_cases (OfSlot slot) (OfSlot number) more there) [
  | inl same ↦ (let e : slot ≡ number = cc in subst (Contains (slot ∷ slots_in more)) e (contains_head slot (slots_in more)))
  | inr later ↦ contains_later slot number (slots_in more) (slot_listed more number later)
]
slot_listed (OfLocal local ∷ more) number there = elim (contains_cases (OfLocal local) (OfSlot number) more there) [
  | inl same ↦ absurd (cc)
  | inr later ↦ slot_listed more number later
]
slot_listed (OfItem item ∷ more) number there = elim (contains_cases (OfItem item) (OfSlot number) more there) [
  | inl same ↦ absurd (cc)
  | inr later ↦ slot_listed more number later
]
slot_listed (OfBranch guard then otherwise ∷ more) number there = elim (contains_cases (OfBranch guard then otherwise) (OfSlot number) more there) [
  | inl same ↦ absurd (cc)
  | inr later ↦ slot_listed more number later
]

listed_slot : (stand : List Direct) (number : ℕ) → Contains (slots_in stand) number → Contains stand (OfSlot number)
listed_slot [] number there = absurd (contains_none number there)
listed_slot (OfSlot slot ∷ more) number there = elim (contains_cases slot number (slots_in more) there) [
  | inl same ↦ subst (λ n. Contains (OfSlot slot ∷ more) (OfSlot n)) same (contains_head (OfSlot slot) more)
  | inr later ↦ contains_later (OfSlot slot) (OfSlot number) more (listed_slot more number later)
]
listed_slot (OfLocal local ∷ more) number there = contains_later (OfLocal local) (OfSlot number) more (listed_slot more number there)
listed_slot (OfItem item ∷ more) number there = contains_later (OfItem item) (OfSlot number) more (listed_slot more number there)
listed_slot (OfBranch guard then otherwise ∷ more) number there =
    contains_later (OfBranch guard then otherwise) (OfSlot number) more (listed_slot more number there)

-- what is so of the token of each slot in a block is so of all
slots_all : (P : TokenName → Type 0) (block : TokenBlock) (entries : Entries) → ((slot : ℕ) → Contains (direct entries) (OfSlot slot) → P (slot_token block.token block.rule slot))
    → All P (slot_tokens block entries)
slots_all P block entries each =
    let numbers = slots_in (direct entries) in
    All-map P (slot_token block.token block.rule) numbers
    (all_from_get (λ (n : ℕ). P (slot_token block.token block.rule n)) numbers
    (λ k n at. each n (listed_slot (direct entries) n (contains_from_get numbers k n at))))

-- and of the token of each slot, where it is so of all
pub slot_of_all : (P : TokenName → Type 0) (block : TokenBlock) (entries : Entries) → All P (slot_tokens block entries) → (slot : ℕ) → Contains (direct entries) (OfSlot slot)
    → P (slot_token block.token block.rule slot)
slot_of_all P block entries all slot stands =
    let numbers = slots_in (direct entries) in
    All-contains P (slot_tokens block entries) (slot_token block.token block.rule slot) all
    (contains_map (slot_token block.token block.rule) numbers slot (slot_listed (direct entries) slot stands))

-- ---- the tokens of a block

pub slots_named : (model : Model) (names : List TokenName) (block : OpenBlock) (token : TokenName) (additions : Additions) → Some token ≡ slice_get names block.token
    → AreAdditions model (record { token = token; rule = block.rule; path = block.path }) additions → (entries : Entries) → IsBlock model (named_block names block) entries
    → additions.slots.items ≡ slot_tokens (named_block names block) entries
slots_named model names block token additions at are =
    subst (λ (t : TokenName). (entries : Entries) → IsBlock model (record { token = t; rule = block.rule; path = block.path }) entries
    → additions.slots.items ≡ slot_tokens (record { token = t; rule = block.rule; path = block.path }) entries) (named_at names block.token token at)
    (λ entries found. (are entries found).slots)

pub slots_are_tokens : (model : Model) (block : TokenBlock) (entries : Entries) → IsLawful model → IsBlock model block entries → All (λ token. (slot : Slot) × HasToken model token slot) (slot_tokens block entries)
slots_are_tokens model block entries lawful is = slots_all (λ token. (slot : Slot) × HasToken model token slot) block entries (λ number stands.
    let place = get_from_contains (direct entries) (OfSlot number) stands in
    let at : StandsAt is.rule.top block.path place.0 (OfSlot number) = record { block = entries; way = is.way; stands = place.1 } in
    let listed = ((rule_lawful model lawful is.slot.pred block.rule is.rule is.has_rule).entries block.path place.0 (OfSlot number) at).1 in
    (listed.0, has_slot_token model block.token is.slot listed.0 block.rule is.rule number is.has_token is.has_rule listed.1))

module _ (content : Content) (decisions : List Decision) (known : AreAllKnown content decisions) where
  decided_there : (token : TokenName) → IsTaken decisions token ⊎ IsRejected decisions token → Contains content.tokens token
  decided_there token (inl (inl activated)) = known (Activate token) activated
  decided_there token (inl (inr (target, merged))) = (known (Merge token target) merged).0
  decided_there token (inr rejected) = known (Reject token) rejected

-- an open block asks for its slots' tokens
pub slots_asked : (model : Model) (followed decisions : List Decision) (stored : Stored) (unfolded : ℕ) (due : List ℕ) (block : OpenBlock) (entries : Entries)
    → IsStoreUnderway model followed decisions stored unfolded due → AreOpenEntries model stored block entries → AreAllKnown (content_now stored) decisions
    → AskForTokens model (content_now stored) (slot_tokens (block_named stored block) entries) decisions
slots_asked model followed decisions stored unfolded due block entries under has known =
    let content = content_now stored in
    let named = block_named stored block in
    let found = under.justified.blocks named (contains_map (named_block content.tokens) stored.blocks block has.is_open) in
    let same = block_once model _ _ named found.0 entries found.1.is_open.has_block has.is_block in
    slots_all (λ token. AskForToken model content token decisions) named entries (λ slot stands. record {
      supported = slot_supported model decisions (shown content) named found.0 found.1 slot (subst (λ (e : Entries). Contains (direct e) (OfSlot slot)) (sym same) stands);
      decided = decided_there content decisions known (slot_token named.token named.rule slot);
    })

pub slots_there : (model : Model) (old new : Stored) (block : OpenBlock) (list : List TokenName)
    → ((entries : Entries) → AreOpenEntries model old block entries → list ≡ slot_tokens (block_named old block) entries) → (result : Result (Unit {0}) NetFault)
    → OnOk result (All (Contains (token_names (tokens_now new.past))) list)
    → OnOk result ((entries : Entries) → AreOpenEntries model old block entries → All (Contains (token_names (tokens_now new.past))) (slot_tokens (block_named old block) entries))
slots_there model old new block list are (Ok done) all = λ entries stand. subst (All (Contains (token_names (tokens_now new.past)))) (are entries stand) all
slots_there model old new block list are (Err fault) all = tt

-- ---- one token after another

module _ (model : Model) where
  ask_on : (old new : Content) → Adds old new → (token : TokenName) (decisions : List Decision) → AskForToken model old token decisions → AskForToken model new token decisions
  ask_on old new adds token decisions ask = record {
    supported = supported_further model _ _ (further_on old new adds decisions) token ask.supported;
    decided = λ is. goes_there old.tokens new.tokens adds.tokens token (ask.decided is);
  }

  -- a store that was on its way still is, where the decisions ask for this
  abbrev pub KeepsAsked : (List Decision → Type 0) → Stored → Stored → Type 0
  KeepsAsked Asked old new =
      (followed decisions : List Decision) (unfolded : ℕ) (due : List ℕ) → IsStoreUnderway model followed decisions old unfolded due → Asked decisions
      → IsStoreUnderway model followed decisions new unfolded due

  -- behind such a step, what is asked for later is asked for now
  pub asked_through : (First Later : List Decision → Type 0) (old mid new : Stored) → KeepsAsked First old mid
      → ((followed decisions : List Decision) (unfolded : ℕ) (due : List ℕ) → IsStoreUnderway model followed decisions old unfolded due → First decisions → Later decisions)
      → (result : Result (Unit {0}) NetFault) → StaysUnderway model Later mid result new → StaysUnderway model First old result new
  asked_through First Later old mid new first asks (Ok done) stays = λ followed decisions unfolded due under asked.
      stays followed decisions unfolded due (first followed decisions unfolded due under asked) (asks followed decisions unfolded due under asked)
  asked_through First Later old mid new first asks (Err Collapsed) stays = λ followed decisions unfolded due under asked.
      stays followed decisions unfolded due (first followed decisions unfolded due under asked) (asks followed decisions unfolded due under asked)
  asked_through First Later old mid new first asks (Err Memory) stays = tt

  -- what a store has become when the first so many tokens were brought
  pub record BroughtTo (names : List TokenName) (count : ℕ) (old new : Stored) : Type 0 where
    pub underway : KeepsAsked (AskForTokens model (content_now old) names) old new
    pub there : All (Contains (token_names (tokens_now new.past))) (take count names)
    pub adds : OnlyAdds old new
    pub preds : ArePreds model (tokens_now new.past)
    pub marks : KeepStoreMarks old new

  pub brought_none : (names : List TokenName) (stored : Stored) → ArePreds model (tokens_now stored.past) → BroughtTo names 0 stored stored
  brought_none names stored preds = record {
    underway = λ followed decisions unfolded due under asked. under;
    there = All-nil (Contains (token_names (tokens_now stored.past)));
    adds = adds_nothing stored;
    preds = preds;
    marks = marks_same _;
  }

  module _ (names : List TokenName) (count : ℕ) (d : TokenName) (below : count < length names) (old mid new : Stored) (sound : IsSnapshot (snapshot_of old)) (middle : IsSnapshot (snapshot_of mid))
      (so_far : BroughtTo names count old mid) where
    asks_later : (decisions : List Decision) → AskForTokens model (content_now old) names decisions → AskForToken model (content_now mid) (get_or names count d) decisions
    asks_later decisions asked =
        ask_on (content_now old) (content_now mid) (content_adds old mid sound so_far.adds) (get_or names count d) decisions
        (All-get_or (λ token. AskForToken model (content_now old) token decisions) names count d below asked)

    pub bring_through : (result : Result (Unit {0}) NetFault) → StaysUnderway model (AskForToken model (content_now mid) (get_or names count d)) mid result new
        → StaysUnderway model (AskForTokens model (content_now old) names) old result new
    bring_through result stays =
        asked_through (AskForTokens model (content_now old) names) (AskForToken model (content_now mid) (get_or names count d)) old mid new so_far.underway
        (λ followed decisions unfolded due under asked. asks_later decisions asked) result stays

    pub brought_more : StaysUnderway model (AskForToken model (content_now mid) (get_or names count d)) mid (Ok tt) new
        → Contains (token_names (tokens_now new.past)) (get_or names count d) → OnlyAdds mid new → ArePreds model (tokens_now new.past) → KeepStoreMarks mid new
        → BroughtTo names (count + 1) old new
    brought_more stays there adds preds marks = record {
      underway = bring_through (Ok tt) stays;
      there = subst (All (Contains (token_names (tokens_now new.past)))) (sym (take_more names count d below))
          (All-push (Contains (token_names (tokens_now new.past))) (take count names) (get_or names count d)
          (All-weaker (Contains (token_names (tokens_now mid.past))) (Contains (token_names (tokens_now new.past)))
          (λ token was. goes_there (content_now mid).tokens (content_now new).tokens (content_adds mid new middle adds).tokens token was) (take count names) so_far.there) there);
      adds = adds_both old mid new so_far.adds adds;
      preds = preds;
      marks = marks_both _ _ _ so_far.marks marks;
    }
