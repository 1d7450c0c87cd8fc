-- What is seen of a content.
use Rattle.std.proofs.Common.{◌≡◌, ℕ, zero, suc, ◌<◌, ◌≤◌, List, [], ◌∷◌, length, map, get_or, Option, Some, None, MatchOption, Bor, slice_get, refl, sym, ap, ◌∙◌, subst, arith}
use Rattle.std.specs.Prelude.{Contains, AllPairs, ◌≢◌, option_copied}
use Rattle.std.specs.Option.{option_map}
use Rattle.std.proofs.lemmas.List.{get_or-map, length-map}
use Rattle.std.proofs.lemmas.List.Elements.{All-contains}
use Rattle.std.proofs.lemmas.Option.{slice_get-map, slice_get-get_or, slice_get_past}
use Rattle.domain_core.specs.Domain.{Domain}
use Rattle.eu_name.specs.declared.name.TokenName.{TokenName}
use Rattle.eu_name.specs.declared.name.VarName.{VarName}
use Rattle.eu_name.specs.NameOrder.{IsTokenBefore, IsVarBefore}
use Rattle.eu_name.proofs.Orders.{token_order, var_order}
use Rattle.model_core.specs.declared.decision.Decision.{Decision}
use Rattle.model_core.specs.declared.model.Model.{Model}
use Rattle.model_core.specs.declared.view.TokenState.{TokenState}
use Rattle.model_core.specs.declared.view.TokenState.TheVariants.{Inactive, Active, Fact, Merged, Rejected}
use Rattle.model_core.specs.Blocks.{TokenBlock, IsBlockBefore}
use Rattle.model_core.specs.State.{VarDomain, Gives, IsState}
use Rattle.model_core.specs.TokenStates.{HasTokenState}
use Rattle.model_core.specs.Views.{IsTokenAt, IsDomainIn, IsDomainAt}
use Rattle.token_store.specs.Orders.{IsRanking, IsNameBefore, HasRank, name_at}
use Rattle.token_store.specs.Tokens.{token_names, token_states}
use Rattle.token_store.specs.declared.trail.Token.{Token}
use Rattle.token_store.proofs.Numbers.{in_order_at}
use Rattle.eu_name.proofs.Members.{get_from_contains, contains_from_get, get_below, get_within, get_same}
use Rattle.eu_name.proofs.Ordered.{same_members}
use Rattle.model_core.specs.Content.{Content, shown, paired, IsContent}
use Rattle.db_refine.proofs.Alike.{in_order_alike, in_order_state}
use Rattle.db_refine.proofs.BlockOrder.{block_order}
use Rattle.db_refine.proofs.Showing.{pairs_apart}
use Rattle.db_posting.specs.Counting.{AreTokenStates}
use Rattle.db_store.specs.declared.key.VarKey.{VarKey}
use Rattle.db_store.specs.Keys.{named_variable, IsKeyBelow}
use Rattle.db_store.specs.Stores.{Snapshot, IsSnapshot, named_content}
use Rattle.db_store.specs.StoreLaws.{HasEachOnce}
use Rattle.db_store.proofs.Naming.{gives_by_number, names_are_once, same_key}
use Rattle.db_refusals.specs.InOrder.{tokens_in_order, blocks_in_order, entries_in_order, state_of}
use Rattle.db_refusals.specs.Seeing.{FindsRank, GivesKey, IsStateBelow, IsRankedState}
use Rattle.db_refusals.specs.ViewLaws.{ContentsArePutInOrder, ContentsHaveStates, ContentsHaveOneState}
use Rattle.db_refusals.proofs.Putting.{AreSame, in_order_is}

abbrev AreOnce : {X : Type 0} → List X → Type 0
AreOnce {X} xs = AllPairs (λ one other. one ≢ other) xs

abbrev before_entry : VarDomain → VarDomain → Type 0
before_entry one other = IsVarBefore one.name other.name

-- ---- in order

tokens_same : (tokens : List TokenName) → AreOnce tokens
    → AreSame IsTokenBefore (λ one other. one ≡ other) token_order.total token_order.transitive tokens (tokens_in_order tokens)
unfolding tokens_in_order
tokens_same tokens once = in_order_is IsTokenBefore (λ one other. one ≡ other) token_order.total token_order.transitive tokens once

blocks_same : (blocks : List TokenBlock) → AreOnce blocks
    → AreSame IsBlockBefore (λ one other. one ≡ other) block_order.total block_order.transitive blocks (blocks_in_order blocks)
unfolding blocks_in_order
blocks_same blocks once = in_order_is IsBlockBefore (λ one other. one ≡ other) block_order.total block_order.transitive blocks once

entries_same : (entries : List VarDomain) → AllPairs (λ one other. one.name ≢ other.name) entries
    → AreSame before_entry (λ one other. one.name ≡ other.name) (λ one other. var_order.total one.name other.name)
    (λ one other later. var_order.transitive one.name other.name later.name) entries (entries_in_order entries)
unfolding entries_in_order
entries_same entries once =
    in_order_is before_entry (λ one other. one.name ≡ other.name) (λ one other. var_order.total one.name other.name)
    (λ one other later. var_order.transitive one.name other.name later.name) entries once

pub put_in_order : ContentsArePutInOrder
put_in_order content once =
    let tokens = tokens_same content.tokens once.tokens in
    let blocks = blocks_same content.blocks once.blocks in
    let entries = entries_same (paired content.names content.domains) (pairs_apart content.names content.domains once.names) in
    record {
      alike = record { tokens = tokens.same; blocks = blocks.same; gives = λ name domain. entries.same (record { name = name; domain = domain }) };
      order = record { tokens = tokens.ordered; blocks = blocks.ordered; entries = entries.ordered };
    }

pub one_state : ContentsHaveOneState
one_state content state once order alike =
    let is = put_in_order content once in
    let tokens = same_members IsTokenBefore token_order.irreflexive token_order.transitive state.tokens (tokens_in_order content.tokens) order.tokens is.order.tokens
    (λ token c. (is.alike.tokens token).0 ((alike.tokens token).1 c)) (λ token c. (alike.tokens token).0 ((is.alike.tokens token).1 c)) in
    let blocks = same_members IsBlockBefore block_order.irreflexive block_order.transitive state.blocks (blocks_in_order content.blocks) order.blocks is.order.blocks
    (λ block c. (is.alike.blocks block).0 ((alike.blocks block).1 c)) (λ block c. (alike.blocks block).0 ((is.alike.blocks block).1 c)) in
    let entries = same_members before_entry (λ entry. var_order.irreflexive entry.name) (λ one other later. var_order.transitive one.name other.name later.name)
    state.entries (entries_in_order (paired content.names content.domains)) order.entries is.order.entries
    (λ entry c. (is.alike.gives entry.name entry.domain).0 ((alike.gives entry.name entry.domain).1 c))
    (λ entry c. (alike.gives entry.name entry.domain).0 ((is.alike.gives entry.name entry.domain).1 c)) in
    λ i. record { tokens = tokens i; blocks = blocks i; entries = entries i }

each_once : (model : Model) (content : Content) → IsContent model content → HasEachOnce content
each_once model content is = record { tokens = is.tokens_once; blocks = is.blocks_once; names = is.names_once; count = is.count }

pub have_states : ContentsHaveStates
have_states model content is =
    let state = in_order_state model content is in
    subst (IsState model) (one_state content _ (each_once model content is) state.order (in_order_alike model content is)) state

-- ---- ranks

mapped_get : {X Y : Type 0} (f : X → Y) (xs : List X) (k : ℕ) (x : X) → slice_get xs k ≡ Some x → slice_get (map f xs) k ≡ Some (f x)
mapped_get f xs k x at = slice_get-map f xs k ∙ ap (option_map f) at

unmapped : {X Y : Type 0} (f : X → Y) (xs : List X) (y : Y) (k : ℕ) → slice_get (map f xs) k ≡ Some y → (x : X) × (Contains xs x × (f x ≡ y))
unmapped f [] y k at = absurd (cc)
unmapped f (x ∷ xs) y zero at = (x, ((0, omega arith, refl), cc))
unmapped f (x ∷ xs) y (suc k) at =
    let rest = unmapped f xs y k at in
    (rest.0, ((suc rest.1.0.0, omega (arith, rest.1.0.1), rest.1.0.2), rest.1.1))

pub name_stands : (names : List TokenName) (place : ℕ) → place < length names → slice_get names place ≡ Some (name_at names place)
name_stands names place below = slice_get-get_or names place _ below

ranking_ordered : (names : List TokenName) (ranking : List ℕ) → IsRanking names ranking → AllPairs IsTokenBefore (map (name_at names) ranking)
ranking_ordered names ranking is = λ i j d less within.
    let long = length-map ranking (name_at names) in
    let one : get_or (map (name_at names) ranking) i d ≡ name_at names (get_or ranking i 0) = get_or-map (name_at names) ranking i 0 d (omega arith) in
    let other : get_or (map (name_at names) ranking) j d ≡ name_at names (get_or ranking j 0) = get_or-map (name_at names) ranking j 0 d (omega arith) in
    subst (λ (t : TokenName). IsTokenBefore t (get_or (map (name_at names) ranking) j d)) (sym one)
    (subst (λ (t : TokenName). IsTokenBefore (name_at names (get_or ranking i 0)) t) (sym other)
    (in_order_at (IsNameBefore names) ranking i j is.order less (omega arith)))

pub ranked : (names : List TokenName) → AreOnce names → (place rank : ℕ) → HasRank names place rank
    → slice_get (tokens_in_order names) rank ≡ Some (name_at names place)
ranked names once place rank (ranking, (is, at)) =
    let same = tokens_same names once in
    let list : tokens_in_order names ≡ map (name_at names) ranking =
    same_members IsTokenBefore token_order.irreflexive token_order.transitive (tokens_in_order names) (map (name_at names) ranking) same.ordered (ranking_ordered names ranking is)
    (λ token c.
    let there = get_from_contains names token ((same.same token).1 c) in
    let below = get_below names there.0 token there.1 in
    let listed = get_from_contains ranking there.0 ((is.each there.0).1 below) in
    contains_from_get (map (name_at names) ranking) listed.0 token
    (mapped_get (name_at names) ranking listed.0 there.0 listed.1 ∙ sym (name_stands names there.0 below) ∙ there.1))
    (λ token c.
    let there = get_from_contains (map (name_at names) ranking) token c in
    let back = unmapped (name_at names) ranking token there.0 there.1 in
    let below = (is.each back.0).0 back.1.0 in
    (same.same token).0 (contains_from_get names back.0 token (name_stands names back.0 below ∙ ap Some back.1.1))) in
    ap (λ names. slice_get names rank) list ∙ mapped_get (name_at names) ranking rank place at

pub rank_below : (names : List TokenName) (place rank : ℕ) → HasRank names place rank → place < length names
rank_below names place rank (ranking, (is, at)) = (is.each place).0 (contains_from_get ranking rank place at)

pub count_same : (content : Content) → HasEachOnce content → length content.tokens ≡ length (state_of content).tokens
count_same content once = let long = (tokens_same content.tokens once.tokens).long in omega arith

pub ranked_none : (names : List TokenName) → AreOnce names → (rank : ℕ) → length names ≤ rank → slice_get (tokens_in_order names) rank ≡ None
ranked_none names once rank past =
    let long = (tokens_same names once).long in
    slice_get_past (tokens_in_order names) rank (omega arith)

-- ---- what is found

pub rank_found : (names : List TokenName) (rank count : ℕ) (found : Option ℕ) → count ≡ length names → MatchOption found (count ≤ rank) (λ place. HasRank names place rank) → FindsRank names rank found
rank_found names rank count (Some place) long has = (rank_below names place rank has, has)
rank_found names rank count None long past = omega (arith, long, past)

module _ (snapshot : Snapshot) (is : IsSnapshot snapshot) where
  abbrev names : List TokenName
  names = token_names snapshot.tokens

  abbrev content : Content
  content = named_content snapshot

  once : HasEachOnce (named_content snapshot)
  once = names_are_once snapshot is

  -- the token of a rank
  pub token_told : (rank : ℕ) (found : Option ℕ) → FindsRank names rank found → slice_get (state_of content).tokens rank ≡ option_map (name_at names) found
  token_told rank (Some place) (below, has) = ranked names once.tokens place rank has
  token_told rank None past = ranked_none names once.tokens rank past

  pub name_told : (rank place : ℕ) (named : Option TokenName) → FindsRank names rank (Some place) → named ≡ slice_get names place → named ≡ slice_get (state_of content).tokens rank
  name_told rank place named (below, has) is_named = is_named ∙ name_stands names place below ∙ sym (ranked names once.tokens place rank has)

  pub none_told : (rank : ℕ) → FindsRank names rank None → None ≡ slice_get (state_of content).tokens rank
  none_told rank past = sym (ranked_none names once.tokens rank past)

  the_token : (rank place : ℕ) → FindsRank names rank (Some place) → (token : TokenName) → IsTokenAt (state_of content) rank token → name_at names place ≡ token
  the_token rank place (below, has) token at =
      let here : slice_get (state_of content).tokens rank ≡ Some (name_at names place) = ranked names once.tokens place rank has in
      get_same (state_of content).tokens rank (name_at names place) token here at

  -- a domain by its number
  given_seen : (name : VarName) (number : ℕ) (domain : Domain) → slice_get content.names number ≡ Some name → slice_get content.domains number ≡ Some domain → Gives (state_of content) name domain
  given_seen name number domain named given =
      ((put_in_order content once).alike.gives name domain).0 ((gives_by_number content name domain).1 (number, named, given))

  seen_named : (name : VarName) (domain : Domain) → Gives (state_of content) name domain → Contains content.names name
  seen_named name domain gives =
      let at = (gives_by_number content name domain).0 (((put_in_order content once).alike.gives name domain).1 gives) in
      contains_from_get content.names at.0 name at.1

  -- of a variable that has a number
  pub named_told : (name : VarName) (number : ℕ) (found : Option (Bor Domain)) → slice_get content.names number ≡ Some name
      → MatchOption found (length content.domains ≤ number) (λ domain. slice_get content.domains number ≡ Some domain.now) → IsDomainIn (state_of content) name (option_copied found)
  named_told name number (Some domain) named given = given_seen name number domain.now named given
  named_told name number None named past =
      let below = get_below content.names number name named in
      let long = once.count in
      absurd (omega (arith, below, long, past))

  pub unnamed_told : (name : VarName) → (Contains content.names name → ⊥) → IsDomainIn (state_of content) name None
  unnamed_told name nowhere = λ domain gives. nowhere (seen_named name domain gives)

  -- of a key that has a number
  pub key_told : (key : VarKey) (number : ℕ) (found : Option (Bor Domain)) → slice_get snapshot.keys number ≡ Some key
      → MatchOption found (length snapshot.domains ≤ number) (λ domain. slice_get snapshot.domains number ≡ Some domain.now)
      → GivesKey snapshot.keys snapshot.domains key (option_copied found)
  key_told key number (Some domain) at given = (number, at, given)
  key_told key number None at past =
      let below = get_below snapshot.keys number key at in
      let long = is.count in
      absurd (omega (arith, below, long, past))

  -- of a variable of the token of a rank
  module _ (variable_of : TokenName → VarName) (key : VarKey) (rank place : ℕ) (finds : FindsRank names rank (Some place))
      (named : named_variable names key ≡ variable_of (name_at names place)) (below : IsKeyBelow (length names) key) where
    key_of_name : Contains content.names (variable_of (name_at names place)) → Contains snapshot.keys key
    key_of_name there =
        let at = get_from_contains content.names (variable_of (name_at names place)) there in
        let other = unmapped (named_variable names) snapshot.keys (variable_of (name_at names place)) at.0 at.1 in
        let long = length-map snapshot.tokens (λ (token : TokenName × Token). token.0) in
        let placed = All-contains (IsKeyBelow (length snapshot.tokens)) snapshot.keys other.0 is.placed other.1.0 in
        let same = same_key names is.tokens_once other.0 key (subst (λ n. IsKeyBelow n other.0) (sym long) placed) below (other.1.1 ∙ sym named) in
        subst (Contains snapshot.keys) same other.1.0

    pub at_told : (found : Option Domain) → GivesKey snapshot.keys snapshot.domains key found → IsDomainAt (state_of content) rank variable_of found
    at_told (Some domain) (number, at, given) = (
      name_at names place,
      ranked names once.tokens place rank finds.1,
      given_seen (variable_of (name_at names place)) number domain (mapped_get (named_variable names) snapshot.keys number key at ∙ ap Some named) given,
    )
    at_told None nowhere = λ token domain at gives.
        let same = the_token rank place finds token at in
        nowhere (key_of_name (subst (λ (t : TokenName). Contains content.names (variable_of t)) (sym same) (seen_named (variable_of token) domain gives)))

  pub at_nowhere : (variable_of : TokenName → VarName) (rank : ℕ) → FindsRank names rank None → IsDomainAt (state_of content) rank variable_of None
  at_nowhere variable_of rank past = λ token domain at gives.
      let none = none_told rank past in
      absurd (cc)

-- ---- states of tokens

module _ (model : Model) (decisions : List Decision) (snapshot : Snapshot) (is : IsSnapshot snapshot) (told : AreTokenStates model decisions snapshot) where
  state_below : (token : TokenName) (state : TokenState) → HasTokenState model (shown (named_content snapshot)) decisions token state → IsStateBelow (length (token_names snapshot.tokens)) state
  state_below token Inactive has = tt
  state_below token Active has = tt
  state_below token Fact has = tt
  state_below token (Merged place) has = get_below (token_names snapshot.tokens) place has.0 has.1
  state_below token Rejected has = tt

  state_ranked : (token : TokenName) (state ranked_as : TokenState) → HasTokenState model (shown (named_content snapshot)) decisions token state → IsRankedState (token_names snapshot.tokens) state ranked_as
      → HasTokenState model (state_of (named_content snapshot)) decisions token ranked_as
  state_ranked token Inactive other has as_is = subst (HasTokenState model (state_of (named_content snapshot)) decisions token) (sym as_is) has
  state_ranked token Active other has as_is = subst (HasTokenState model (state_of (named_content snapshot)) decisions token) (sym as_is) has
  state_ranked token Fact other has as_is = subst (HasTokenState model (state_of (named_content snapshot)) decisions token) (sym as_is) has
  state_ranked token Rejected other has as_is = subst (HasTokenState model (state_of (named_content snapshot)) decisions token) (sym as_is) has
  state_ranked token (Merged place) other has (rank, same, has_rank) =
      let names = token_names snapshot.tokens in
      let below = get_below names place has.0 has.1 in
      let name = get_same names place (name_at names place) has.0 (name_stands names place below) has.1 in
      let seen : slice_get (state_of (named_content snapshot)).tokens rank ≡ Some has.0 = ranked names (names_are_once snapshot is).tokens place rank has_rank ∙ ap Some name in
      subst (HasTokenState model (state_of (named_content snapshot)) decisions token) (sym same) (has.0, seen, has.2)

  module _ (rank place : ℕ) (finds : FindsRank (token_names snapshot.tokens) rank (Some place)) where
    abbrev the_name : TokenName
    the_name = name_at (token_names snapshot.tokens) place

    has_state : (state : TokenState) → slice_get (token_states snapshot.tokens) place ≡ Some state → HasTokenState model (shown (named_content snapshot)) decisions the_name state
    has_state state at = told.states place the_name state (name_stands (token_names snapshot.tokens) place finds.0) at

    pub state_at_below : (state : TokenState) → slice_get (token_states snapshot.tokens) place ≡ Some state → IsStateBelow (length snapshot.tokens) state
    state_at_below state at =
        let long = length-map snapshot.tokens (λ (token : TokenName × Token). token.0) in
        subst (λ n. IsStateBelow n state) long (state_below the_name state (has_state state at))

    pub state_at_told : (state ranked_as : TokenState) → slice_get (token_states snapshot.tokens) place ≡ Some state → IsRankedState (token_names snapshot.tokens) state ranked_as
        → (token : TokenName) × IsTokenAt (state_of (named_content snapshot)) rank token × HasTokenState model (state_of (named_content snapshot)) decisions token ranked_as
    state_at_told state ranked_as at as_is = (
      the_name,
      ranked (token_names snapshot.tokens) (names_are_once snapshot is).tokens place rank finds.1,
      state_ranked the_name state ranked_as (has_state state at) as_is,
    )

    pub state_somewhere : None ≡ slice_get (token_states snapshot.tokens) place → ⊥
    state_somewhere none =
        let long = length-map snapshot.tokens (λ (token : TokenName × Token). token.0) in
        let other = length-map snapshot.tokens (λ (token : TokenName × Token). token.1.state) in
        let there = get_within (token_states snapshot.tokens) place (omega (arith, long, other, finds.0)) in
        let at = there.1 in
        cc

  pub count_told : (rank : ℕ) → FindsRank (token_names snapshot.tokens) rank None → length (state_of (named_content snapshot)).tokens ≤ rank
  count_told rank past = let long = count_same (named_content snapshot) (names_are_once snapshot is) in omega (arith, long, past)
