-- The first blocks of the rules of a token that is activated.
use Rattle.std.proofs.Common.{◌≡◌, ℕ, ◌+◌, ◌<◌, ◌≤◌, ◌↔◌, List, [], ◌++◌, length, map, Some, Ok, Err, inl, inr, refl, sym, ap, ◌∙◌, subst, arith}
use Rattle.std.specs.Prelude.{Contains, Result, slice_get}
use Rattle.std.proofs.lemmas.Bool.{cases_lt}
use Rattle.std.proofs.lemmas.List.{append_assoc, append-nil, map-append, length-map}
use Rattle.std.proofs.lemmas.List.Elements.{All-contains, Contains-append_left}
use Rattle.eu_name.specs.declared.name.TokenName.{TokenName}
use Rattle.model_core.specs.declared.decision.Decision.{Decision}
use Rattle.model_core.specs.declared.model.Model.{Model}
use Rattle.model_core.specs.declared.rule.Rule.{Rule}
use Rattle.model_core.specs.declared.rule.Slot.{Slot}
use Rattle.model_core.specs.declared.rule.Turn.{Turn}
use Rattle.model_core.specs.Blocks.{TokenBlock, IsBlock, block_at}
use Rattle.model_core.specs.Decided.{IsActivated}
use Rattle.model_core.specs.Entries.{Entries}
use Rattle.model_core.specs.Tokens.{HasRule, HasToken}
use Rattle.token_store.specs.Orders.{name_at}
use Rattle.token_store.specs.Tokens.{TokenPast, tokens_now, token_names, token_preds}
use Rattle.constraint_net.specs.declared.NetFault.{NetFault}
use Rattle.constraint_net.specs.declared.NetFault.TheVariants.{Collapsed, Memory}
use Rattle.model_core.specs.Content.{Content, shown, IsContent}
use Rattle.db_refine.specs.Progress.{IsUnfolded}
use Rattle.db_refine.proofs.Keeping.{first_behind}
use Rattle.eu_name.proofs.Places.{get_cases, contains_map}
use Rattle.db_refine.proofs.Supporting.{rule_supported}
use Rattle.db_store.specs.Keys.{named_block}
use Rattle.db_store.specs.Stores.{Stored}
use Rattle.db_store.specs.declared.key.OpenBlock.{OpenBlock}
use Rattle.db_posting.specs.Origins.{content_now}
use Rattle.db_opening.specs.Opened.{AskForBlock}
use Rattle.db_posting.specs.Underway.{IsStoreUnderway, StaysUnderway, GoesOnAs, OnlyAdds}
use Rattle.db_posting.specs.Wanted.{ArePreds}
use Rattle.db_opening.proofs.Opening.{name_there, pred_is}
use Rattle.db_decide.proofs.Ruling.{first_there}

-- ---- one step after another

goes_same : {X : Type 0} (xs : List X) → GoesOnAs xs xs
goes_same xs = ([], sym (append-nil xs))

goes_through : {X : Type 0} (one two three : List X) → GoesOnAs one two → GoesOnAs two three → GoesOnAs one three
goes_through one two three first second =
    (first.0 ++ second.0, second.1 ∙ ap (λ xs. xs ++ second.0) first.1 ∙ append_assoc one first.0 second.0)

pub adds_same : (stored : Stored) → OnlyAdds stored stored
adds_same stored = record {
  tokens = goes_same (tokens_now stored.past);
  keys = goes_same stored.keys;
  blocks = goes_same stored.blocks;
  watches = goes_same stored.watches;
  domains = goes_same stored.net.domains;
  posted = goes_same stored.net.constraints;
  tables = refl;
  changed = refl;
}

pub adds_through : (one two three : Stored) → OnlyAdds one two → OnlyAdds two three → OnlyAdds one three
adds_through one two three first second = record {
  tokens = goes_through (tokens_now one.past) (tokens_now two.past) (tokens_now three.past) first.tokens second.tokens;
  keys = goes_through one.keys two.keys three.keys first.keys second.keys;
  blocks = goes_through one.blocks two.blocks three.blocks first.blocks second.blocks;
  watches = goes_through one.watches two.watches three.watches first.watches second.watches;
  domains = goes_through one.net.domains two.net.domains three.net.domains first.domains second.domains;
  posted = goes_through one.net.constraints two.net.constraints three.net.constraints first.posted second.posted;
  tables = second.tables ∙ first.tables;
  changed = second.changed ∙ first.changed;
}

module _ (model : Model) (Asked Step : List Decision → Type 0) (old mid new : Stored) (first : StaysUnderway model Asked old (Ok tt) mid)
    (asks : (followed decisions : List Decision) (unfolded : ℕ) (due : List ℕ) → IsStoreUnderway model followed decisions mid unfolded due → Asked decisions → Step decisions) where
  pub stays_on : (result : Result (Unit {0}) NetFault) → StaysUnderway model Step mid result new → StaysUnderway model Asked old result new
  stays_on (Ok done) second = λ followed decisions unfolded due under asked.
      let reached = first followed decisions unfolded due under asked in
      second followed decisions unfolded due reached (asks followed decisions unfolded due reached asked)
  stays_on (Err Collapsed) second = λ followed decisions unfolded due under asked.
      let reached = first followed decisions unfolded due under asked in
      second followed decisions unfolded due reached (asks followed decisions unfolded due reached asked)
  stays_on (Err Memory) second = tt

-- ---- a rule

abbrev pub opened_block : ℕ → ℕ → List Turn → OpenBlock
opened_block place rule path = record { token = place; rule = rule; path = path }

-- an activated token asks for the first block of its rule
pub rule_asked : (model : Model) (stored : Stored) (place rule : ℕ) (path : List Turn) → path ≡ [] → place < length (tokens_now stored.past) → (entries : Entries)
    → IsBlock model (block_at (name_at (content_now stored).tokens place) rule []) entries
    → (followed decisions : List Decision) (unfolded : ℕ) (due : List ℕ) → IsStoreUnderway model followed decisions stored unfolded due
    → IsActivated decisions (name_at (content_now stored).tokens place)
    → AskForBlock model (content_now stored) (named_block (content_now stored).tokens (opened_block place rule path)) decisions
rule_asked model stored place rule path none below entries is followed decisions unfolded due under activated =
    let token = name_at (content_now stored).tokens place in
    subst (λ (p : List Turn). AskForBlock model (content_now stored) (named_block (content_now stored).tokens (opened_block place rule p)) decisions) (sym none) (record {
      entries = entries;
      supported = rule_supported model decisions (shown (content_now stored)) token rule entries (under.justified.tokens token (name_there (tokens_now stored.past) place below)) activated is;
      behind = first_behind (content_now stored) token rule;
    })

module _ (old new : Stored) (past : new.past ≡ old.past) (adds : GoesOnAs old.blocks new.blocks) where
  same_tokens : (content_now new).tokens ≡ (content_now old).tokens
  same_tokens = ap (λ (p : TokenPast). token_names (tokens_now p)) past

  blocks_now : (content_now new).blocks ≡ (content_now old).blocks ++ map (named_block (content_now old).tokens) adds.0
  blocks_now =
      ap (λ (names : List TokenName). map (named_block names) new.blocks) same_tokens ∙ ap (map (named_block (content_now old).tokens)) adds.1
      ∙ map-append (named_block (content_now old).tokens) old.blocks adds.0

  -- blocks that were there still are, and the first so many are those that were there
  pub block_stays : (block : TokenBlock) → Contains (content_now old).blocks block → Contains (content_now new).blocks block
  block_stays block there = subst (λ (blocks : List TokenBlock). Contains blocks block) (sym blocks_now)
      (Contains-append_left (content_now old).blocks (map (named_block (content_now old).tokens) adds.0) block there)

  pub unfolded_before : (unfolded : ℕ) → unfolded ≤ length old.blocks → (block : TokenBlock) → IsUnfolded (content_now new) unfolded block → IsUnfolded (content_now old) unfolded block
  unfolded_before unfolded within block (number, at, below) =
      elim (get_cases (content_now old).blocks (map (named_block (content_now old).tokens) adds.0) number block
      (subst (λ (blocks : List TokenBlock). slice_get blocks number ≡ Some block) blocks_now at)) [
        | inl before ↦ (number, before, below)
        | inr behind ↦ absurd (omega (arith, below, within, behind.1, length-map old.blocks (named_block (content_now old).tokens)))
      ]

module _ (token : TokenName) (old new : Stored) (past : new.past ≡ old.past) where
  -- a block that is open is there by its name
  pub opened_there : (place rule : ℕ) (path : List Turn) → path ≡ [] → Contains new.blocks (opened_block place rule path) → name_at (content_now old).tokens place ≡ token
      → Contains (content_now new).blocks (block_at token rule [])
  opened_there place rule path none there is =
      let named = contains_map (named_block (content_now new).tokens) new.blocks (opened_block place rule path) there in
      let same : (content_now new).tokens ≡ (content_now old).tokens = ap (λ (p : TokenPast). token_names (tokens_now p)) past in
      let names : name_at (content_now new).tokens place ≡ token = ap (λ (list : List TokenName). name_at list place) same ∙ is in
      subst (λ (t : TokenName). Contains (content_now new).blocks (block_at t rule [])) names
      (subst (λ (p : List Turn). Contains (content_now new).blocks (block_at (name_at (content_now new).tokens place) rule p)) none named)

-- one rule more is open
pub rule_more : (content : Content) (token : TokenName) (count : ℕ) → ((rule : ℕ) → rule < count → Contains content.blocks (block_at token rule []))
    → Contains content.blocks (block_at token count []) → (rule : ℕ) → rule < count + 1 → Contains content.blocks (block_at token rule [])
rule_more content token count before there rule below = elim (cases_lt rule count) [
  | inl earlier ↦ before rule earlier
  | inr past ↦ (
      let last : count ≡ rule = omega (arith, below, past) in
      subst (λ (r : ℕ). Contains content.blocks (block_at token r [])) last there)
]

-- ---- all rules

module _ (model : Model) (stored : Stored) (is : IsContent model (content_now stored)) (preds : ArePreds model (tokens_now stored.past)) (place pred count : ℕ)
    (below : place < length (tokens_now stored.past)) (at : Some pred ≡ slice_get (token_preds (tokens_now stored.past)) place)
    (counted : (rule : ℕ) → (rule < count) ↔ ((found : Rule) × HasRule model pred rule found)) where
  abbrev token : TokenName
  token = name_at (content_now stored).tokens place

  of_pred : (slot : Slot) → HasToken model token slot → slot.pred ≡ pred
  of_pred slot has = pred_is model (tokens_now stored.past) place pred preds at below slot has

  pub rules_there : (rule : ℕ) → rule < count → (entries : Entries) × IsBlock model (block_at token rule []) entries
  rules_there rule less =
      let slot = All-contains (λ (t : TokenName). (s : Slot) × HasToken model t s) (content_now stored).tokens token is.tokens (name_there (tokens_now stored.past) place below) in
      let found = (counted rule).0 less in
      first_there model token slot.0 rule found.0 slot.1 (subst (λ (p : ℕ). HasRule model p rule found.0) (sym (of_pred slot.0 slot.1)) found.1)

  pub rule_below : (rule : ℕ) (entries : Entries) → IsBlock model (block_at token rule []) entries → rule < count
  rule_below rule entries block =
      (counted rule).1 (block.rule, subst (λ (p : ℕ). HasRule model p rule block.rule) (of_pred block.slot block.has_token) block.has_rule)

-- the next rule is asked for, also where others are open already
pub next_asked : (model : Model) (old mid : Stored) → mid.past ≡ old.past → (place rule : ℕ) (path : List Turn) → path ≡ [] → place < length (tokens_now old.past)
    → (entries : Entries) × IsBlock model (block_at (name_at (content_now old).tokens place) rule []) entries
    → (followed decisions : List Decision) (unfolded : ℕ) (due : List ℕ) → IsStoreUnderway model followed decisions mid unfolded due
    → IsActivated decisions (name_at (content_now old).tokens place)
    → AskForBlock model (content_now mid) (named_block (content_now mid).tokens (opened_block place rule path)) decisions
next_asked model old mid past place rule path none below there followed decisions unfolded due under activated =
    let same : (content_now old).tokens ≡ (content_now mid).tokens = ap (λ (p : TokenPast). token_names (tokens_now p)) (sym past) in
    let here = subst (λ (names : List TokenName). (entries : Entries) × IsBlock model (block_at (name_at names place) rule []) entries) same there in
    rule_asked model mid place rule path none (subst (λ (p : TokenPast). place < length (tokens_now p)) (sym past) below) here.0 here.1 followed decisions unfolded due under
    (subst (λ (names : List TokenName). IsActivated decisions (name_at names place)) same activated)
