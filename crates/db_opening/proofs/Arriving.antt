-- A token that comes with its parts.
use Rattle.std.proofs.Common.{◌≡◌, ℕ, ◌<◌, ◌≤◌, List, [], ◌∷◌, ◌++◌, length, map, Ok, Err, Some, ◌⊎◌, inl, inr, refl, sym, ap, ◌∙◌, subst, arith}
use Rattle.std.specs.Prelude.{◌≢◌, All, AllPairs, Contains, Result, OnOk, slice_get}
use Rattle.std.proofs.lemmas.List.{append-nil, map-append, map_push, length-map}
use Rattle.std.proofs.lemmas.List.Elements.{All-contains, All-map, All-weaker, Contains-append_cases, Contains-append_left, Contains-append_right, Contains-push, Contains-push_cases}
use Rattle.std.proofs.lemmas.Option.{get_or_from_slice_get}
use Rattle.domain_core.specs.Domain.{Domain}
use Rattle.eu_name.specs.declared.name.Part.{Part}
use Rattle.eu_name.specs.declared.name.TokenName.{TokenName}
use Rattle.eu_name.specs.declared.name.VarName.{VarName}
use Rattle.eu_name.specs.declared.name.VarName.TheVariants as name
use Rattle.model_core.specs.declared.decision.Decision.{Decision}
use Rattle.model_core.specs.declared.model.Model.{Model}
use Rattle.model_core.specs.declared.rule.Slot.{Slot}
use Rattle.model_core.specs.declared.variable.Base.{Base}
use Rattle.model_core.specs.declared.variable.Base.TheVariants.{Given, Void}
use Rattle.model_core.specs.declared.view.TokenState.{TokenState}
use Rattle.model_core.specs.Blocks.{TokenBlock}
use Rattle.model_core.specs.Decided.{IsTaken, IsRejected}
use Rattle.model_core.specs.Lawful.{IsLawful}
use Rattle.model_core.specs.State.{VarDomain}
use Rattle.model_core.specs.Tokens.{HasToken}
use Rattle.model_core.specs.TokenStates.{HasTokenState}
use Rattle.model_core.specs.Variables.{HasBase, HasPartBase}
use Rattle.model_core.proofs.Leading.{token_once}
use Rattle.narrow_core.specs.declared.field.Field.{Field}
use Rattle.constraint_net.specs.declared.NetFault.{NetFault}
use Rattle.constraint_net.specs.declared.NetFault.TheVariants.{Collapsed, Memory}
use Rattle.constraint_net.specs.declared.constraint.Constraint.{Constraint}
use Rattle.token_store.specs.Orders.{name_at}
use Rattle.token_store.specs.Tokens.{TokenList, tokens_now, token_names, token_preds, token_states, with_token}
use Rattle.token_store.specs.declared.trail.Token.{Token}
use Rattle.plan_defs.specs.Claims.{Claim, IsOfToken, lasts}
use Rattle.plan_defs.specs.Situations.{situation_of}
use Rattle.plan_defs.specs.Support.{IsSupportedToken}
use Rattle.eu_name.proofs.Members.{get_below, get_from_contains, get_all}
use Rattle.eu_name.proofs.Ordered.{contains_none}
use Rattle.db_refine.specs.Claims.{IsPostedIn}
use Rattle.model_core.specs.Content.{Content, shown, IsContent}
use Rattle.db_refine.specs.Growth.{LeaveNothing, IsAboveAll}
use Rattle.db_refine.proofs.Owing.{no_void, asked_is_owed}
use Rattle.db_refine.specs.Coming.{TokenComes}
use Rattle.db_refine.specs.Progress.{IsJustified, MissesNothing}
use Rattle.db_refine.proofs.Coming.{names_kept}
use Rattle.db_refine.proofs.Growing.{token_justified}
use Rattle.db_refine.proofs.Keeping.{token_misses}
use Rattle.db_refine.proofs.Mapping.{posted_kept}
use Rattle.eu_name.proofs.Places.{contains_map, get_front, contains_unmap}
use Rattle.db_store.specs.Keys.{named_variable, named_block, IsKeyBelow}
use Rattle.db_store.specs.Stores.{Stored, snapshot_of, IsSnapshot}
use Rattle.db_store.specs.declared.key.VarKey.{VarKey}
use Rattle.db_store.specs.declared.key.VarKey.TheVariants as keys
use Rattle.db_store.proofs.Naming.{names_are_once, length_names, token_is_added}
use Rattle.db_store.proofs.Snapshots.{names_push}
use Rattle.db_posting.specs.Counting.{AreTokenStates}
use Rattle.db_posting.specs.Origins.{content_now}
use Rattle.db_opening.specs.Arriving.{AskForToken, WantsSomePart, BringsToken, BringsOrFails}
use Rattle.db_opening.specs.Begun.{IsBegun, StaysBegun}
use Rattle.db_opening.specs.Bringing.{KeyDomain}
use Rattle.db_posting.specs.Underway.{AreWatched, IsStoreUnderway, StaysUnderway, OnlyAdds}
use Rattle.db_posting.specs.Wanted.{ArePreds}
use Rattle.db_opening.proofs.Bringing.{key_of, domain_of}
use Rattle.db_opening.proofs.Lists.{pairs_unmap, pairs_behind, get_last, push_cases}
use Rattle.db_opening.proofs.Opening.{to_named, named_added, domains_added}
use Rattle.db_opening.proofs.Standing.{token_state, begun_state, claims_justified}

abbrev nameless : TokenName
nameless = record { root = 0; steps = [] }

abbrev name_of : VarDomain → VarName
name_of each = each.name

module _ (model : Model) (token : TokenName) (old new : Stored) (sound_old : IsSnapshot (snapshot_of old)) (sound : IsSnapshot (snapshot_of new)) (brings : BringsToken model token old new) where
  abbrev had : Content
  had = content_now old

  abbrev has : Content
  has = content_now new

  abbrev tokens_old : TokenList
  tokens_old = tokens_now old.past

  abbrev place : ℕ
  place = length tokens_old

  abbrev arrived : TokenName × Token
  arrived = (token, record { pred = brings.slot.pred; state = brings.state })

  abbrev came : List VarDomain
  came = map (to_named has.tokens) brings.added

  tokens_new : has.tokens ≡ had.tokens ++ token ∷ []
  tokens_new = ap token_names brings.tokens ∙ map_push (λ (each : TokenName × Token). each.0) tokens_old arrived

  -- as where the token had come in another state
  tokens_as : has.tokens ≡ token_names (with_token tokens_old token brings.slot.pred)
  tokens_as = tokens_new ∙ sym (names_push tokens_old token brings.slot.pred)

  names_old : map (named_variable has.tokens) old.keys ≡ had.names
  names_old =
      ap (λ (list : List TokenName). map (named_variable list) old.keys) tokens_as
      ∙ ap (λ (content : Content). content.names) (token_is_added (snapshot_of old) token brings.slot.pred sound_old)

  names_new : has.names ≡ had.names ++ map name_of came
  names_new =
      ap (map (named_variable has.tokens)) brings.keys ∙ map-append (named_variable has.tokens) old.keys (map key_of brings.added)
      ∙ ap (λ (list : List VarName). list ++ map (named_variable has.tokens) (map key_of brings.added)) names_old
      ∙ ap (λ (list : List VarName). had.names ++ list) (named_added has.tokens brings.added)

  blocks_new : has.blocks ≡ had.blocks
  blocks_new =
      ap (map (named_block has.tokens)) brings.blocks ∙ ap (λ (list : List TokenName). map (named_block list) old.blocks) tokens_as
      ∙ ap (λ (content : Content). content.blocks) (token_is_added (snapshot_of old) token brings.slot.pred sound_old)

  domains_new : has.domains ≡ had.domains ++ map (λ (each : VarDomain). each.domain) came
  domains_new = brings.domains ∙ ap (λ (list : List Domain). had.domains ++ list) (domains_added has.tokens brings.added)

  not_there : Contains had.tokens token → ⊥
  not_there there = let at = get_from_contains had.tokens token there in brings.fresh at.0 at.1

  token_there : Contains has.tokens token
  token_there = subst (λ (list : List TokenName). Contains list token) (sym tokens_new) (Contains-push had.tokens token)

  long : length had.tokens ≡ place
  long = length_names tokens_old

  place_named : name_at has.tokens place ≡ token
  place_named = get_or_from_slice_get has.tokens place token nameless
      (subst (λ (n : ℕ). slice_get has.tokens n ≡ Some token) long
      (subst (λ (list : List TokenName). slice_get list (length had.tokens) ≡ Some token) (sym tokens_new) (get_last had.tokens token)))

  -- ---- the parts by name

  part_named : (key : VarKey) (base : Base) → (wants : WantsSomePart model brings.slot place key base) → named_variable has.tokens key ≡ name.Token token wants.0
  part_named key base wants = ap (named_variable has.tokens) wants.1.is ∙ ap (λ (t : TokenName). name.Token t wants.0) place_named

  part_base : (key : VarKey) (base : Base) → WantsSomePart model brings.slot place key base → HasBase model (named_variable has.tokens key) base
  part_base key base wants =
      subst (λ (one : VarName). HasBase model one base) (sym (part_named key base wants)) (brings.slot, brings.has_token, wants.1.has_base)

  came_once : AllPairs (λ one other. one.name ≢ other.name) came
  came_once = pairs_unmap name_of (λ one other. one ≢ other) came
      (pairs_behind (λ one other. one ≢ other) had.names (map name_of came) (subst (AllPairs (λ one other. one ≢ other)) names_new (names_are_once (snapshot_of new) sound).names))

  came_bases : All (λ (each : VarDomain). HasBase model each.name (Given each.domain)) came
  came_bases = All-map (λ (each : VarDomain). HasBase model each.name (Given each.domain)) (to_named has.tokens) brings.added
      (All-weaker (λ (each : KeyDomain). WantsSomePart model brings.slot place each.key (Given each.domain))
      (λ (each : KeyDomain). HasBase model (named_variable has.tokens each.key) (Given each.domain))
      (λ each wants. part_base each.key (Given each.domain) wants) brings.added brings.each)

  came_part : (one : VarName) → Contains (map name_of came) one
      → (part : Part) × (one ≡ name.Token token part) × ((base : Base) × HasPartBase model brings.slot part base)
  came_part one there =
      let from = contains_unmap name_of came one there in
      let each = contains_unmap (to_named has.tokens) brings.added from.0 from.1 in
      let at = get_from_contains brings.added each.0 each.1 in
      let wants = get_all (λ (e : KeyDomain). WantsSomePart model brings.slot place e.key (Given e.domain)) brings.added at.0 each.0 brings.each at.1 in
      let named_one : named_variable has.tokens each.0.key ≡ one = ap name_of each.2 ∙ from.2 in
      (wants.0, sym named_one ∙ part_named each.0.key (Given each.0.domain) wants, (Given each.0.domain, wants.1.has_base))

  -- the parts weren't there
  part_fresh : (part : Part) → Contains old.keys (keys.Part place part) → ⊥
  part_fresh part there =
      let below : place < place = All-contains (IsKeyBelow place) old.keys (keys.Part place part) sound_old.placed there in
      absurd (omega (arith, below))

  part_came : (part : Part) (base : Base) → HasPartBase model brings.slot part base → Contains (map name_of came) (name.Token token part)
  part_came part base has_base =
      let key : VarKey = keys.Part place part in
      let there : Contains new.keys key = brings.all key base (part, record { is = refl; has_base = has_base }) in
      elim (Contains-append_cases old.keys (map key_of brings.added) key (subst (λ (list : List VarKey). Contains list key) brings.keys there)) [
        | inl before ↦ absurd (part_fresh part before)
        | inr new_one ↦ subst (Contains (map name_of came)) (ap (λ (t : TokenName). name.Token t part) place_named)
            (subst (λ (list : List VarName). Contains list (named_variable has.tokens key)) (named_added has.tokens brings.added)
            (contains_map (named_variable has.tokens) (map key_of brings.added) key new_one))
      ]

  pub token_comes : TokenComes model token had has
  token_comes = record {
    slot = brings.slot;
    has_token = brings.has_token;
    added = came;
    variables = record { names = names_new; domains = domains_new; once = came_once; bases = came_bases };
    parts = λ one. (
      came_part one,
      λ part. subst (Contains (map name_of came)) (sym part.1) (part_came part.0 part.2.0 part.2.1),
    );
    tokens = tokens_new;
    blocks = blocks_new;
  }

  -- ---- by place

  name_kept : (k : ℕ) (t : TokenName) → slice_get had.tokens k ≡ Some t → slice_get has.tokens k ≡ Some t
  name_kept k t at = subst (λ (list : List TokenName). slice_get list k ≡ Some t) (sym tokens_new) (get_front had.tokens (token ∷ []) k t at)

  -- the token at a place was there, or has come
  place_cases : (k : ℕ) (t : TokenName) → slice_get has.tokens k ≡ Some t
      → (slice_get had.tokens k ≡ Some t) ⊎ ((k ≡ place) × (t ≡ token))
  place_cases k t at = elim (push_cases had.tokens token k t (subst (λ (list : List TokenName). slice_get list k ≡ Some t) tokens_new at)) [
    | inl before ↦ inl before
    | inr last ↦ inr (last.0 ∙ long, last.1)
  ]

  states_are : token_states (tokens_now new.past) ≡ token_states tokens_old ++ brings.state ∷ []
  states_are = ap token_states brings.tokens ∙ map_push (λ (each : TokenName × Token). each.1.state) tokens_old arrived

  preds_are : token_preds (tokens_now new.past) ≡ token_preds tokens_old ++ brings.slot.pred ∷ []
  preds_are = ap token_preds brings.tokens ∙ map_push (λ (each : TokenName × Token). each.1.pred) tokens_old arrived

  pub preds_new : ArePreds model tokens_old → ArePreds model (tokens_now new.past)
  preds_new preds k t slot at has_token = elim (place_cases k t at) [
    | inl before ↦ subst (λ (list : List ℕ). slice_get list k ≡ Some slot.pred) (sym preds_are)
        (get_front (token_preds tokens_old) (brings.slot.pred ∷ []) k slot.pred (preds k t slot before has_token))
    | inr (last, same) ↦ (
        let slots : slot ≡ brings.slot = token_once model token slot brings.slot (subst (λ (one : TokenName). HasToken model one slot) same has_token) brings.has_token in
        let here : slice_get (token_preds (tokens_now new.past)) (length (token_preds tokens_old)) ≡ Some brings.slot.pred =
        subst (λ (list : List ℕ). slice_get list (length (token_preds tokens_old)) ≡ Some brings.slot.pred) (sym preds_are) (get_last (token_preds tokens_old) brings.slot.pred) in
        let count : length (token_preds tokens_old) ≡ k = length-map tokens_old (λ (each : TokenName × Token). each.1.pred) ∙ sym last in
        subst (λ (s : Slot). slice_get (token_preds (tokens_now new.past)) k ≡ Some s.pred) (sym slots)
        (subst (λ (n : ℕ). slice_get (token_preds (tokens_now new.past)) n ≡ Some brings.slot.pred) count here))
  ]

  state_cases : (k : ℕ) (state : TokenState) → slice_get (token_states (tokens_now new.past)) k ≡ Some state
      → (slice_get (token_states tokens_old) k ≡ Some state) ⊎ ((k ≡ place) × (state ≡ brings.state))
  state_cases k state at = elim (push_cases (token_states tokens_old) brings.state k state (subst (λ (list : List TokenState). slice_get list k ≡ Some state) states_are at)) [
    | inl before ↦ inl before
    | inr last ↦ inr (last.0 ∙ length-map tokens_old (λ (each : TokenName × Token). each.1.state), last.1)
  ]

  -- where the token stood at a place, the state there was a token's too
  states_new : (decisions : List Decision) → (IsTaken decisions token ⊎ IsRejected decisions token → ⊥) → AreTokenStates model decisions (snapshot_of old)
      → AreTokenStates model decisions (snapshot_of new)
  states_new decisions undecided are = record {
    states = λ k t state at stated. elim (place_cases k t at) [
      | inl before ↦ elim (state_cases k state stated) [
        | inl stood ↦ token_state (shown had) (shown has) name_kept model decisions t state (are.states k t state before stood)
        | inr last ↦ absurd (let within = get_below had.tokens k t before in omega (arith, within, last.0, long))
      ]
      | inr here ↦ elim (state_cases k state stated) [
        | inl stood ↦ absurd (let within = get_below (token_states tokens_old) k state stood in
            omega (arith, within, here.0, length-map tokens_old (λ (each : TokenName × Token). each.1.state)))
        | inr last ↦ subst (λ (one : TokenName). HasTokenState model (shown has) decisions one state) (sym here.1)
            (subst (HasTokenState model (shown has) decisions token) (sym last.1) (begun_state model (shown has) decisions token brings.state brings.begins undecided))
      ]
    ];
    rejected = are.rejected;
  }

  watched_new : (unfolded : ℕ) → AreWatched model had old.watches unfolded → AreWatched model has new.watches unfolded
  watched_new unfolded watched number block entries guard then otherwise one below at is stands names =
      let it = watched number block entries guard then otherwise one below (subst (λ (list : List TokenBlock). slice_get list number ≡ Some block) blocks_new at) is stands names in (
        it.0,
        subst (λ (list : List VarName). slice_get list it.0 ≡ Some one) (sym names_new) (get_front had.names (map name_of came) it.0 one it.1),
        subst (λ list. Contains list (record { variable = it.0; block = number })) (sym brings.watches) it.2,
      )

  lasts_posted : IsPostedIn has.names (old.net.constraints ++ brings.posts.later) (lasts token)
  lasts_posted =
      let found = brings.posts.all (lasts token) refl in
      (found.0, Contains-append_right old.net.constraints brings.posts.later found.0 found.1, found.2)

  lasts_claimed : (claim : Claim) → claim ≡ lasts token → IsOfToken (shown has) claim
  lasts_claimed claim is = record { token = token; there = token_there; says = is }

  module _ (lawful : IsLawful model) where
    token_new : (decisions : List Decision) → IsJustified model decisions old.net.tables old.net.constraints had
        → IsSupportedToken model (situation_of decisions (shown had)) token → IsJustified model decisions new.net.tables new.net.constraints has
    token_new decisions justified supported =
        let comes = token_justified model decisions old.net.tables old.net.constraints had has token lawful justified not_there supported token_comes in
        subst (λ (tables : List Field). IsJustified model decisions tables new.net.constraints has) (sym brings.tables)
        (claims_justified model decisions old.net.tables has (λ claim. claim ≡ lasts token) old.net.constraints new.net.constraints brings.posts
        (λ claim is. inr (inr (inl (lasts_claimed claim is)))) comes)

    pub token_underway : (followed decisions : List Decision) (unfolded : ℕ) (due : List ℕ)
        → IsStoreUnderway model followed decisions old unfolded due → AskForToken model had token decisions
        → IsStoreUnderway model followed decisions new unfolded due
    token_underway followed decisions unfolded due under ask = record {
      justified = token_new decisions under.justified ask.supported;
      complete = subst (λ (posted : List Constraint). MissesNothing model followed posted has unfolded due) (sym brings.posts.behind)
          (token_misses model followed old.net.constraints brings.posts.later had has token unfolded due lawful under.justified.is_content under.complete not_there token_comes lasts_posted);
      states = states_new decisions (λ decided. not_there (ask.decided decided)) under.states;
      preds = preds_new under.preds;
      watched = watched_new unfolded under.watched;
      within = subst (λ list. unfolded ≤ length list) (sym brings.blocks) under.within;
    }

    -- ---- before any decision

    lasts_old : IsContent model had → (claim : Claim) → IsPostedIn had.names old.net.constraints claim → IsPostedIn has.names new.net.constraints claim
    lasts_old is claim posted =
        subst (λ (list : List Constraint). IsPostedIn has.names list claim) (sym brings.posts.behind)
        (posted_kept had.names has.names (names_kept model token_comes.added had has is token_comes.variables) old.net.constraints (old.net.constraints ++ brings.posts.later)
        (λ constraint there. Contains-append_left old.net.constraints brings.posts.later constraint there) claim posted)

    lasts_new : IsBegun model old → (claim : Claim) → IsOfToken (shown has) claim → IsPostedIn has.names new.net.constraints claim
    lasts_new begun claim of = elim (Contains-push_cases had.tokens token of.token (subst (λ (list : List TokenName). Contains list of.token) tokens_new of.there)) [
      | inl before ↦ lasts_old begun.justified.is_content claim (begun.of_tokens claim (record { token = of.token; there = before; says = of.says }))
      | inr same ↦ subst (IsPostedIn has.names new.net.constraints) (ap lasts same ∙ sym of.says)
          (subst (λ (list : List Constraint). IsPostedIn has.names list (lasts token)) (sym brings.posts.behind) lasts_posted)
    ]

    pub token_begun : IsBegun model old → IsSupportedToken model (situation_of [] (shown had)) token → IsBegun model new
    token_begun begun supported = record {
      justified = token_new [] begun.justified supported;
      states = states_new [] (λ decided. elim decided [
        | inl taken ↦ elim taken [
          | inl activated ↦ contains_none _ activated
          | inr merged ↦ contains_none _ merged.1
        ]
        | inr rejected ↦ contains_none _ rejected
      ]) begun.states;
      preds = preds_new begun.preds;
      no_blocks = brings.blocks ∙ begun.no_blocks;
      of_tokens = lasts_new begun;
    }

  pub token_adds : OnlyAdds old new
  token_adds = record {
    tokens = (arrived ∷ [], brings.tokens);
    keys = (map key_of brings.added, brings.keys);
    blocks = ([], brings.blocks ∙ sym (append-nil old.blocks));
    watches = ([], brings.watches ∙ sym (append-nil old.watches));
    domains = (map domain_of brings.added, brings.domains);
    posted = (brings.posts.later, brings.posts.behind);
    tables = brings.tables;
    changed = brings.changed;
  }

  pub token_is_there : Contains (token_names (tokens_now new.past)) token
  token_is_there = token_there

-- a part with a void base leaves nothing
void_leaves : (model : Model) (token : TokenName) (content : Content) (slot : Slot) (part : Part) → HasToken model token slot → HasPartBase model slot part Void
    → (decisions : List Decision) → IsContent model content → IsAboveAll model decisions content
    → IsSupportedToken model (situation_of decisions (shown content)) token → LeaveNothing model decisions
void_leaves model token content slot part has_token has_base decisions is above supported state fit =
    let there : Contains state.tokens token = (asked_is_owed model decisions content is above).tokens token supported state fit in
    no_void model decisions state (name.Token token part) fit (there, (Void, (slot, has_token, has_base))) (slot, has_token, has_base)

module _ (model : Model) (lawful : IsLawful model) (token : TokenName) (old new : Stored) (sound_old : IsSnapshot (snapshot_of old)) (sound : IsSnapshot (snapshot_of new)) where
  pub token_stays : (result : Result (Unit {0}) NetFault) → BringsOrFails model token old result new → StaysUnderway model (AskForToken model (content_now old) token) old result new
  token_stays (Ok done) brings = λ followed decisions unfolded due under ask.
      token_underway model token old new sound_old sound brings lawful followed decisions unfolded due under ask
  token_stays (Err Collapsed) fails = λ followed decisions unfolded due under ask.
      void_leaves model token (content_now old) fails.0 fails.2.0 fails.1 fails.2.1 decisions under.justified.is_content under.justified.above ask.supported
  token_stays (Err Memory) fails = tt

  pub token_stays_begun : (result : Result (Unit {0}) NetFault) → BringsOrFails model token old result new → StaysBegun model token old result new
  token_stays_begun (Ok done) brings = λ begun supported. token_begun model token old new sound_old sound brings lawful begun supported
  token_stays_begun (Err Collapsed) fails = λ begun supported.
      void_leaves model token (content_now old) fails.0 fails.2.0 fails.1 fails.2.1 [] begun.justified.is_content begun.justified.above supported
  token_stays_begun (Err Memory) fails = tt

  pub brought_there : (result : Result (Unit {0}) NetFault) → BringsOrFails model token old result new → OnOk result (Contains (token_names (tokens_now new.past)) token)
  brought_there (Ok done) brings = token_is_there model token old new sound_old sound brings
  brought_there (Err fault) fails = tt

  pub brought_adds : (result : Result (Unit {0}) NetFault) → BringsOrFails model token old result new → OnOk result (OnlyAdds old new)
  brought_adds (Ok done) brings = token_adds model token old new sound_old sound brings
  brought_adds (Err fault) fails = tt

  pub brought_preds : ArePreds model (tokens_now old.past) → (result : Result (Unit {0}) NetFault) → BringsOrFails model token old result new
      → OnOk result (ArePreds model (tokens_now new.past))
  brought_preds preds (Ok done) brings = preds_new model token old new sound_old sound brings preds
  brought_preds preds (Err fault) fails = tt
