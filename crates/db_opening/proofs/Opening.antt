-- A block that opens with its locals.
use Rattle.std.proofs.Common.{◌≡◌, ℕ, ◌<◌, ◌≤◌, List, [], ◌∷◌, ◌++◌, length, map, Ok, Err, Some, None, inl, inr, refl, sym, ap, ◌∙◌, subst, arith}
use Rattle.std.specs.Prelude.{◌≢◌, All, AllPairs, Contains, Option, Result, OnOk, slice_get}
use Rattle.std.proofs.lemmas.List.{append-nil, map-append, map_push, length-map, length_push}
use Rattle.std.proofs.lemmas.List.Elements.{All-map, All-weaker, Contains-get_or, Contains-append_cases, Contains-push}
use Rattle.std.proofs.lemmas.Option.{slice_get-get_or, get_or_from_slice_get}
use Rattle.domain_core.specs.Domain.{Domain}
use Rattle.eu_name.specs.declared.name.TokenName.{TokenName}
use Rattle.eu_name.specs.declared.name.VarName.{VarName}
use Rattle.eu_name.specs.declared.name.VarName.TheVariants as name
use Rattle.model_core.specs.declared.decision.Decision.{Decision}
use Rattle.model_core.specs.declared.model.Model.{Model}
use Rattle.model_core.specs.declared.rule.Slot.{Slot}
use Rattle.model_core.specs.declared.variable.Base.{Base}
use Rattle.model_core.specs.declared.variable.Base.TheVariants.{Given, Void}
use Rattle.model_core.specs.declared.view.TokenState.{TokenState}
use Rattle.model_core.specs.Blocks.{TokenBlock, IsBlock, Direct, direct, OfLocal, OfSlot, OfItem, OfBranch}
use Rattle.model_core.specs.Entries.{Entries}
use Rattle.model_core.specs.Lawful.{IsLawful}
use Rattle.model_core.specs.Standing.{StandsAt}
use Rattle.model_core.specs.State.{VarDomain, StandsOpen}
use Rattle.model_core.specs.Tokens.{HasToken}
use Rattle.model_core.specs.TokenStates.{HasTokenState}
use Rattle.model_core.specs.Variables.{HasBase}
use Rattle.rule_engine.specs.Contents.{AreAdditions}
use Rattle.rule_engine.specs.Lists.{locals_in}
use Rattle.rule_engine.specs.declared.block.Additions.{Additions}
use Rattle.token_store.specs.Orders.{name_at}
use Rattle.token_store.specs.Tokens.{TokenList, TokenPast, tokens_now, token_names, token_preds, token_states}
use Rattle.constraint_net.specs.declared.NetFault.{NetFault}
use Rattle.constraint_net.specs.declared.NetFault.TheVariants.{Collapsed, Memory}
use Rattle.narrow_core.specs.declared.field.Field.{Field}
use Rattle.constraint_net.specs.declared.constraint.Constraint.{Constraint}
use Rattle.plan_defs.proofs.Lower.{HasBlock-map}
use Rattle.eu_name.proofs.Members.{get_from_contains, contains_from_get, get_all}
use Rattle.plan_defs.proofs.Members.{all_from_get}
use Rattle.eu_name.proofs.Ordered.{contains_head, contains_later, contains_cases, contains_none}
use Rattle.model_core.specs.Content.{Content, shown, IsContent}
use Rattle.db_refine.specs.Growth.{LeaveNothing}
use Rattle.db_refine.proofs.Owing.{no_void, asked_is_owed}
use Rattle.db_refine.specs.Coming.{BlockComes}
use Rattle.db_refine.specs.Progress.{IsJustified, MissesNothing}
use Rattle.model_core.proofs.Blocks.{block_once}
use Rattle.model_core.proofs.Locals.{local_once}
use Rattle.db_refine.proofs.Growing.{block_justified}
use Rattle.db_refine.proofs.Keeping.{block_misses}
use Rattle.model_core.proofs.Lawful.{rule_lawful}
use Rattle.eu_name.proofs.Places.{contains_map, get_front, get_cases, contains_unmap}
use Rattle.db_store.specs.Keys.{named_variable, named_block}
use Rattle.db_store.specs.Puts.{PutsBlock}
use Rattle.db_store.specs.Stores.{Stored, snapshot_of, IsSnapshot, named_content}
use Rattle.db_store.specs.declared.key.OpenBlock.{OpenBlock}
use Rattle.db_store.specs.declared.key.VarKey.{VarKey}
use Rattle.db_store.specs.declared.key.VarKey.TheVariants.{Local}
use Rattle.db_store.proofs.Naming.{names_are_once, length_names}
use Rattle.db_opening.specs.Bringing.{KeyDomain, BringsKeys, Brings}
use Rattle.db_opening.specs.Opened.{AreLocalsOf, AskForBlock, OpensBlock, OpensOrFails}
use Rattle.db_posting.specs.Counting.{AreTokenStates}
use Rattle.db_posting.specs.Underway.{AreWatched, IsStoreUnderway, StaysUnderway, OnlyAdds}
use Rattle.db_posting.specs.Wanted.{ArePreds, IsDeclaredLocal, WantsLocal, WantsLocals, WantsOfBlock, IsNamedLocal}
use Rattle.db_opening.proofs.Bringing.{key_of, domain_of, brings_as}
use Rattle.db_opening.proofs.Lists.{pairs_unmap, pairs_behind, apart_before}
use Rattle.db_opening.proofs.Standing.{token_state}

-- ---- the locals that stand directly in a block

pub local_listed : (stand : List Direct) (number : ℕ) → Contains stand (OfLocal number) → Contains (locals_in stand) number
local_listed [] number there = absurd (contains_none (OfLocal number) there)
local_listed (OfLocal local ∷ more) number there = elim (contains_cases (OfLocal local) (OfLocal number) more there) [
  | inl same ↦ (let e : local ≡ number = cc in subst (Contains (local ∷ locals_in more)) e (contains_head local (locals_in more)))
  | inr later ↦ contains_later local number (locals_in more) (local_listed more number later)
]
local_listed (OfSlot slot ∷ more) number there = elim (contains_cases (OfSlot slot) (OfLocal number) more there) [
  | inl same ↦ absurd (cc)
  | inr later ↦ local_listed more number later
]
local_listed (OfItem item ∷ more) number there = elim (contains_cases (OfItem item) (OfLocal number) more there) [
  | inl same ↦ absurd (cc)
  | inr later ↦ local_listed more number later
]
local_listed (OfBranch guard then otherwise ∷ more) number there = elim (contains_cases (OfBranch guard then otherwise) (OfLocal number) more there) [
  | inl same ↦ absurd (cc)
  | inr later ↦ local_listed more number later
]

pub listed_local : (stand : List Direct) (number : ℕ) → Contains (locals_in stand) number → Contains stand (OfLocal number)
listed_local [] number there = absurd (contains_none number there)
listed_local (OfLocal local ∷ more) number there = elim (contains_cases local number (locals_in more) there) [
  | inl same ↦ subst (λ n. Contains (OfLocal local ∷ more) (OfLocal n)) same (contains_head (OfLocal local) more)
  | inr later ↦ contains_later (OfLocal local) (OfLocal number) more (listed_local more number later)
]
listed_local (OfSlot slot ∷ more) number there = contains_later (OfSlot slot) (OfLocal number) more (listed_local more number there)
listed_local (OfItem item ∷ more) number there = contains_later (OfItem item) (OfLocal number) more (listed_local more number there)
listed_local (OfBranch guard then otherwise ∷ more) number there =
    contains_later (OfBranch guard then otherwise) (OfLocal number) more (listed_local more number there)

-- ---- names by place

abbrev nameless : TokenName
nameless = record { root = 0; steps = [] }

pub named_at : (names : List TokenName) (place : ℕ) (token : TokenName) → Some token ≡ slice_get names place → token ≡ name_at names place
named_at names place token at = sym (get_or_from_slice_get names place token nameless (sym at))

pub name_there : (tokens : TokenList) (place : ℕ) → place < length tokens → Contains (token_names tokens) (name_at (token_names tokens) place)
name_there tokens place below = Contains-get_or (token_names tokens) place nameless (omega (arith, below, length_names tokens))

-- the predicate that is kept is the one of the token's slot
pub pred_is : (model : Model) (tokens : TokenList) (place pred : ℕ) → ArePreds model tokens → Some pred ≡ slice_get (token_preds tokens) place → place < length tokens
    → (slot : Slot) → HasToken model (name_at (token_names tokens) place) slot → slot.pred ≡ pred
pred_is model tokens place pred preds at below slot has =
    let named = slice_get-get_or (token_names tokens) place nameless (omega (arith, below, length_names tokens)) in
    let one : slice_get (token_preds tokens) place ≡ Some slot.pred = preds place (name_at (token_names tokens) place) slot named has in
    cc

module _ (model : Model) (names : List TokenName) (block : OpenBlock) where
  abbrev owner : TokenName
  owner = name_at names block.token

  pub there_named : (token : TokenName) → Some token ≡ slice_get names block.token → (entries : Entries) × IsBlock model (named_block names block) entries
      → (entries : Entries) × IsBlock model (record { token = token; rule = block.rule; path = block.path }) entries
  there_named token at there =
      subst (λ (t : TokenName). (entries : Entries) × IsBlock model (record { token = t; rule = block.rule; path = block.path }) entries) (sym (named_at names block.token token at)) there

  pub locals_named : (token : TokenName) (additions : Additions) → Some token ≡ slice_get names block.token
      → AreAdditions model (record { token = token; rule = block.rule; path = block.path }) additions → AreLocalsOf model (named_block names block) additions.locals.items
  locals_named token additions at are =
      subst (λ (t : TokenName). AreLocalsOf model (record { token = t; rule = block.rule; path = block.path }) additions.locals.items) (named_at names block.token token at)
      (λ entries found. (are entries found).locals)

  module _ (lawful : IsLawful model) (entries : Entries) (is : IsBlock model (named_block names block) entries) where
    -- each local that stands there is declared
    declared_there : (number : ℕ) → Contains (direct entries) (OfLocal number) → (base : Base) × IsDeclaredLocal model is.slot.pred block.rule number base
    declared_there number stands =
        let at = get_from_contains (direct entries) (OfLocal number) stands in
        let of_rule = rule_lawful model lawful is.slot.pred block.rule is.rule is.has_rule in
        let one : StandsAt is.rule.top block.path at.0 (OfLocal number) = record { block = entries; way = is.way; stands = at.1 } in
        let declared = (of_rule.entries block.path at.0 (OfLocal number) one).1 in
        (declared.0.base, record { found = is.rule; has_rule = is.has_rule; variable = declared.0; declared = declared.1; is_base = refl })

    module _ (pred : ℕ) (preds : (slot : Slot) → HasToken model owner slot → slot.pred ≡ pred) (locals : List VarName) (are : AreLocalsOf model (named_block names block) locals) where
      are_locals : locals ≡ map (name.Local owner block.rule) (locals_in (direct entries))
      are_locals = are entries is

      pub locals_are : All (IsNamedLocal model pred block.rule owner) locals
      locals_are = subst (All (IsNamedLocal model pred block.rule owner)) (sym are_locals)
          (All-map (IsNamedLocal model pred block.rule owner) (name.Local owner block.rule) (locals_in (direct entries))
          (all_from_get (λ (n : ℕ). IsNamedLocal model pred block.rule owner (name.Local owner block.rule n)) (locals_in (direct entries)) (λ k n at.
          let declared = declared_there n (listed_local (direct entries) n (contains_from_get (locals_in (direct entries)) k n at)) in
          record {
            number = n;
            is = refl;
            base = declared.0;
            declared = subst (λ p. IsDeclaredLocal model p block.rule n declared.0) (preds is.slot is.has_token) declared.1;
          })))

      stands_listed : (number : ℕ) → Contains locals (name.Local owner block.rule number) → Contains (direct entries) (OfLocal number)
      stands_listed number listed =
          let from = contains_unmap (name.Local owner block.rule) (locals_in (direct entries)) (name.Local owner block.rule number)
          (subst (λ list. Contains list (name.Local owner block.rule number)) are_locals listed) in
          let names : name.Local owner block.rule from.0 ≡ name.Local owner block.rule number = from.2 in
          let same : from.0 ≡ number = cc in
          listed_local (direct entries) number (subst (Contains (locals_in (direct entries))) same from.1)

      listed_stands : (number : ℕ) → Contains (direct entries) (OfLocal number) → Contains locals (name.Local owner block.rule number)
      listed_stands number stands = subst (λ list. Contains list (name.Local owner block.rule number)) (sym are_locals)
          (contains_map (name.Local owner block.rule) (locals_in (direct entries)) number (local_listed (direct entries) number stands))

      pub brings_block : (old new : Stored) (result : Result (Unit {0}) NetFault) → Brings (WantsLocals model pred block.token block.rule owner locals) old result new
          → Brings (WantsOfBlock model names block) old result new
      brings_block old new result brings =
          brings_as (WantsLocals model pred block.token block.rule owner locals) (WantsOfBlock model names block)
          (λ key base wants. record {
            entries = entries;
            is_block = is;
            number = wants.number;
            stands = stands_listed wants.number wants.listed;
            wants = subst (λ p. WantsLocal model p block.token block.rule wants.number key base) (sym (preds is.slot is.has_token)) wants.wants;
          })
          (λ key base wants. (
            base,
            record {
              number = wants.number;
              listed = listed_stands wants.number (subst (λ (e : Entries). Contains (direct e) (OfLocal wants.number))
                  (block_once model _ _ (named_block names block) wants.entries entries wants.is_block is) wants.stands);
              wants = subst (λ p. WantsLocal model p block.token block.rule wants.number key base) (preds wants.is_block.slot wants.is_block.has_token) wants.wants;
            },
          )) old new result brings

-- ---- the block behind its locals

pub opens_put : (model : Model) (block : OpenBlock) (old mid new : Stored) (found : Option ℕ) → BringsKeys (WantsOfBlock model (token_names (tokens_now old.past)) block) old mid
    → PutsBlock block mid (Ok found) new → (Contains old.blocks block → ⊥) → OpensBlock model block old new
opens_put model block old mid new None brings put fresh =
    absurd (fresh (subst (λ (list : List OpenBlock). Contains list block) brings.rest.blocks put.0))
opens_put model block old mid new (Some number) brings put fresh =
    subst (OpensBlock model block old) (sym put.2) (record {
      fresh = fresh;
      blocks = ap (λ (list : List OpenBlock). list ++ block ∷ []) brings.rest.blocks;
      added = brings.added;
      keys = brings.keys;
      domains = brings.domains;
      each = brings.each;
      all = brings.all;
      past = brings.rest.past;
      watches = brings.rest.watches;
      tables = brings.rest.tables;
      constraints = brings.rest.constraints;
      changed = brings.rest.changed;
    })

pub opening_fails : (model : Model) (block : OpenBlock) (old mid new : Stored) (fault : NetFault) → Brings (WantsOfBlock model (token_names (tokens_now old.past)) block) old (Err fault) mid
    → OpensOrFails model block old (Err fault) new
opening_fails model block old mid new Collapsed fails = fails
opening_fails model block old mid new Memory fails = tt

-- what a variable of the block is declared with
wanted_base : (model : Model) (names : List TokenName) (block : OpenBlock) (key : VarKey) (base : Base) → WantsOfBlock model names block key base → HasBase model (named_variable names key) base
wanted_base model names block key base wants =
    subst (λ (k : VarKey). HasBase model (named_variable names k) base) (sym wants.wants.is) (record {
      slot = wants.is_block.slot;
      has_token = wants.is_block.has_token;
      variable = wants.wants.declared.variable;
      has_local = record { found = wants.wants.declared.found; has_rule = wants.wants.declared.has_rule; declared = wants.wants.declared.declared };
      is_base = wants.wants.declared.is_base;
    })

-- ---- by names

module _ (names : List TokenName) where
  abbrev pub to_named : KeyDomain → VarDomain
  to_named each = record { name = named_variable names each.key; domain = each.domain }

  pub named_added : (added : List KeyDomain) → map (named_variable names) (map key_of added) ≡ map (λ (each : VarDomain). each.name) (map to_named added)
  named_added [] = refl
  named_added (each ∷ added) = ap (λ (list : List VarName). named_variable names each.key ∷ list) (named_added added)

  pub domains_added : (added : List KeyDomain) → map domain_of added ≡ map (λ (each : VarDomain). each.domain) (map to_named added)
  domains_added [] = refl
  domains_added (each ∷ added) = ap (λ (list : List Domain). each.domain ∷ list) (domains_added added)

abbrev name_of : VarDomain → VarName
name_of each = each.name

module _ (model : Model) (lawful : IsLawful model) where
  module _ (block : OpenBlock) (old new : Stored) (sound : IsSnapshot (snapshot_of new)) (opens : OpensBlock model block old new) where
    abbrev had : Content
    had = named_content (snapshot_of old)

    abbrev has : Content
    has = named_content (snapshot_of new)

    abbrev named : TokenBlock
    named = named_block had.tokens block

    abbrev came : List VarDomain
    came = map (to_named had.tokens) opens.added

    same_tokens : has.tokens ≡ had.tokens
    same_tokens = ap (λ (past : TokenPast). token_names (tokens_now past)) opens.past

    pub names_new : has.names ≡ had.names ++ map name_of came
    names_new =
        ap (λ (list : List TokenName). map (named_variable list) new.keys) same_tokens ∙ ap (map (named_variable had.tokens)) opens.keys
        ∙ map-append (named_variable had.tokens) old.keys (map key_of opens.added) ∙ ap (λ (list : List VarName). had.names ++ list) (named_added had.tokens opens.added)

    blocks_new : has.blocks ≡ had.blocks ++ named ∷ []
    blocks_new =
        ap (λ (list : List TokenName). map (named_block list) new.blocks) same_tokens ∙ ap (map (named_block had.tokens)) opens.blocks
        ∙ map_push (named_block had.tokens) old.blocks block

    domains_new : has.domains ≡ had.domains ++ map (λ (each : VarDomain). each.domain) came
    domains_new = opens.domains ∙ ap (λ (list : List Domain). had.domains ++ list) (domains_added had.tokens opens.added)

    pub not_there : Contains had.blocks named → ⊥
    not_there = apart_before had.blocks named (subst (AllPairs (λ one other. one ≢ other)) blocks_new (names_are_once (snapshot_of new) sound).blocks)

    came_once : AllPairs (λ one other. one.name ≢ other.name) came
    came_once = pairs_unmap name_of (λ one other. one ≢ other) came
        (pairs_behind (λ one other. one ≢ other) had.names (map name_of came) (subst (AllPairs (λ one other. one ≢ other)) names_new (names_are_once (snapshot_of new) sound).names))

    came_bases : All (λ (each : VarDomain). HasBase model each.name (Given each.domain)) came
    came_bases = All-map (λ (each : VarDomain). HasBase model each.name (Given each.domain)) (to_named had.tokens) opens.added
        (All-weaker (λ (each : KeyDomain). WantsOfBlock model had.tokens block each.key (Given each.domain))
        (λ (each : KeyDomain). HasBase model (named_variable had.tokens each.key) (Given each.domain))
        (λ each wants. wanted_base model had.tokens block each.key (Given each.domain) wants) opens.added opens.each)

    module _ (is : IsContent model had) (entries : Entries) (is_block : IsBlock model named entries) where
      -- the locals weren't there
      local_fresh : (number : ℕ) → Contains (direct entries) (OfLocal number) → Contains had.names (name.Local named.token named.rule number) → ⊥
      local_fresh number stands there =
          let open_in : StandsOpen model (shown had) named.token named.rule number = (is.variables (name.Local named.token named.rule number)).1 there in
          let same = local_once model lawful open_in.block named open_in.entries entries number open_in.of_token open_in.of_rule open_in.is_block is_block open_in.stands stands in
          not_there (subst (Contains had.blocks) same open_in.is_open)

      stands_in : (key : VarKey) (base : Base) → (wants : WantsOfBlock model had.tokens block key base) → Contains (direct entries) (OfLocal wants.number)
      stands_in key base wants =
          subst (λ (e : Entries). Contains (direct e) (OfLocal wants.number)) (block_once model _ _ named wants.entries entries wants.is_block is_block) wants.stands

      came_local : (one : VarName) → Contains (map name_of came) one
          → (number : ℕ) × (one ≡ name.Local named.token named.rule number) × Contains (direct entries) (OfLocal number)
      came_local one there =
          let from = contains_unmap name_of came one there in
          let each = contains_unmap (to_named had.tokens) opens.added from.0 from.1 in
          let at = get_from_contains opens.added each.0 each.1 in
          let wants = get_all (λ (e : KeyDomain). WantsOfBlock model had.tokens block e.key (Given e.domain)) opens.added at.0 each.0 opens.each at.1 in
          let named_one : named_variable had.tokens each.0.key ≡ one = ap name_of each.2 ∙ from.2 in
          (wants.number, sym named_one ∙ ap (named_variable had.tokens) wants.wants.is, stands_in each.0.key (Given each.0.domain) wants)

      local_came : (number : ℕ) → Contains (direct entries) (OfLocal number) → Contains (map name_of came) (name.Local named.token named.rule number)
      local_came number stands =
          let declared = declared_there model had.tokens block lawful entries is_block number stands in
          let key : VarKey = Local block.token block.rule number in
          let there : Contains new.keys key = opens.all key declared.0
          (record { entries = entries; is_block = is_block; number = number; stands = stands; wants = record { is = refl; declared = declared.1 } }) in
          elim (Contains-append_cases old.keys (map key_of opens.added) key (subst (λ (list : List VarKey). Contains list key) opens.keys there)) [
            | inl before ↦ absurd (local_fresh number stands (contains_map (named_variable had.tokens) old.keys key before))
            | inr new_one ↦ subst (λ (list : List VarName). Contains list (name.Local named.token named.rule number)) (named_added had.tokens opens.added)
                (contains_map (named_variable had.tokens) (map key_of opens.added) key new_one)
          ]

      pub block_comes : BlockComes model named had has
      block_comes = record {
        entries = entries;
        is_block = is_block;
        added = came;
        variables = record { names = names_new; domains = domains_new; once = came_once; bases = came_bases };
        locals = λ one. (
          came_local one,
          λ local. subst (Contains (map name_of came)) (sym local.1) (local_came local.0 local.2),
        );
        tokens = same_tokens;
        blocks = blocks_new;
      }

    -- ---- underway

    states_new : (decisions : List Decision) → AreTokenStates model decisions (snapshot_of old) → AreTokenStates model decisions (snapshot_of new)
    states_new decisions are = record {
      states = λ place token state named_so stated. token_state (shown had) (shown has)
          (λ k t at. subst (λ (list : List TokenName). slice_get list k ≡ Some t) (sym same_tokens) at) model decisions token state
          (subst (λ (past : TokenPast). (p : ℕ) (t : TokenName) (s : TokenState) → slice_get (token_names (tokens_now past)) p ≡ Some t
          → slice_get (token_states (tokens_now past)) p ≡ Some s → HasTokenState model (shown had) decisions t s)
          (sym opens.past) are.states place token state named_so stated);
      rejected = are.rejected;
    }

    watched_new : (unfolded : ℕ) → unfolded ≤ length old.blocks → AreWatched model had old.watches unfolded → AreWatched model has new.watches unfolded
    watched_new unfolded within watched number other entries guard then otherwise one below at is stands names =
        elim (get_cases had.blocks (named ∷ []) number other (subst (λ (list : List TokenBlock). slice_get list number ≡ Some other) blocks_new at)) [
          | inl before ↦ (
              let it = watched number other entries guard then otherwise one below before is stands names in (
                it.0,
                subst (λ (list : List VarName). slice_get list it.0 ≡ Some one) (sym names_new) (get_front had.names (map name_of came) it.0 one it.1),
                subst (λ list. Contains list (record { variable = it.0; block = number })) (sym opens.watches) it.2,
              ))
          | inr behind ↦ absurd (omega (arith, below, within, behind.1, length-map old.blocks (named_block had.tokens)))
        ]

    pub opens_underway : (followed decisions : List Decision) (unfolded : ℕ) (due : List ℕ) → block.token < length (tokens_now old.past)
        → IsStoreUnderway model followed decisions old unfolded due → AskForBlock model had named decisions
        → IsStoreUnderway model followed decisions new unfolded due
    opens_underway followed decisions unfolded due below under ask =
        let is = under.justified.is_content in
        let comes = block_comes is ask.entries (HasBlock-map model _ _ (λ guard side opened. tt) named ask.entries ask.supported.is_open.has_block) in
        let within : unfolded ≤ length had.blocks = omega (arith, under.within, length-map old.blocks (named_block had.tokens)) in
        let justified = block_justified model decisions old.net.tables old.net.constraints had has named ask.entries lawful under.justified not_there
        (name_there (tokens_now old.past) block.token below) ask.supported comes in
        let misses = block_misses model followed old.net.constraints had has named unfolded due lawful is under.complete within not_there comes ask.behind in
        let long = ap length opens.blocks in
        record {
          justified = subst (λ (tables : List Field). IsJustified model decisions tables new.net.constraints has) (sym opens.tables)
              (subst (λ (posted : List Constraint). IsJustified model decisions old.net.tables posted has) (sym opens.constraints) justified);
          complete = subst (λ (posted : List Constraint). MissesNothing model followed posted has unfolded due) (sym opens.constraints) misses;
          states = states_new decisions under.states;
          preds = subst (λ (past : TokenPast). ArePreds model (tokens_now past)) (sym opens.past) under.preds;
          watched = watched_new unfolded under.within under.watched;
          within = omega (arith, under.within, long, length_push old.blocks block);
        }

    pub opens_there : Contains new.blocks block
    opens_there = subst (λ (list : List OpenBlock). Contains list block) (sym opens.blocks) (Contains-push old.blocks block)

    pub opens_adds : OnlyAdds old new
    opens_adds = record {
      tokens = ([], ap tokens_now opens.past ∙ sym (append-nil (tokens_now old.past)));
      keys = (map key_of opens.added, opens.keys);
      blocks = (block ∷ [], opens.blocks);
      watches = ([], opens.watches ∙ sym (append-nil old.watches));
      domains = (map domain_of opens.added, opens.domains);
      posted = ([], opens.constraints ∙ sym (append-nil old.net.constraints));
      tables = opens.tables;
      changed = opens.changed;
    }

-- a local with a void base leaves nothing
void_leaves_nothing : (model : Model) (block : OpenBlock) (old : Stored) (key : VarKey) → WantsOfBlock model (token_names (tokens_now old.past)) block key Void
    → (followed decisions : List Decision) (unfolded : ℕ) (due : List ℕ) → IsStoreUnderway model followed decisions old unfolded due
    → AskForBlock model (named_content (snapshot_of old)) (named_block (token_names (tokens_now old.past)) block) decisions → LeaveNothing model decisions
void_leaves_nothing model block old key wants followed decisions unfolded due under ask state fit =
    let content = named_content (snapshot_of old) in
    let named : TokenBlock = named_block content.tokens block in
    let there : Contains state.blocks named =
    (asked_is_owed model decisions content under.justified.is_content under.justified.above).blocks named ask.entries ask.supported state fit in
    let about : StandsOpen model state named.token named.rule wants.number = record {
      block = named;
      is_open = there;
      of_token = refl;
      of_rule = refl;
      entries = wants.entries;
      is_block = wants.is_block;
      stands = wants.stands;
    } in
    let base : HasBase model (name.Local named.token named.rule wants.number) Void =
    subst (λ (k : VarKey). HasBase model (named_variable content.tokens k) Void) wants.wants.is (wanted_base model content.tokens block key Void wants) in
    no_void model decisions state (name.Local named.token named.rule wants.number) fit about base

module _ (model : Model) (lawful : IsLawful model) (block : OpenBlock) (old new : Stored) (sound : IsSnapshot (snapshot_of new)) where
  pub opened_stays : block.token < length (tokens_now old.past) → (result : Result (Unit {0}) NetFault) → OpensOrFails model block old result new
      → StaysUnderway model (AskForBlock model (named_content (snapshot_of old)) (named_block (token_names (tokens_now old.past)) block)) old result new
  opened_stays below (Ok done) opens = λ followed decisions unfolded due under ask.
      opens_underway model lawful block old new sound opens followed decisions unfolded due below under ask
  opened_stays below (Err Collapsed) fails = λ followed decisions unfolded due under ask.
      void_leaves_nothing model block old fails.0 fails.1 followed decisions unfolded due under ask
  opened_stays below (Err Memory) fails = tt

  pub opened_there : (result : Result (Unit {0}) NetFault) → OpensOrFails model block old result new → OnOk result (Contains new.blocks block)
  opened_there (Ok done) opens = opens_there model lawful block old new sound opens
  opened_there (Err fault) fails = tt

  pub opened_past : (result : Result (Unit {0}) NetFault) → OpensOrFails model block old result new → OnOk result (new.past ≡ old.past)
  opened_past (Ok done) opens = opens.past
  opened_past (Err fault) fails = tt

  pub opened_adds : (result : Result (Unit {0}) NetFault) → OpensOrFails model block old result new → OnOk result (OnlyAdds old new)
  opened_adds (Ok done) opens = opens_adds model lawful block old new sound opens
  opened_adds (Err fault) fails = tt
