-- What is in a snapshot, by names.
use Rattle.std.proofs.Common.{◌≡◌, ℕ, zero, suc, ◌<◌, List, [], ◌∷◌, ◌++◌, length, map, get_or, slice_get, Option, Some, None, refl, sym, ap, ◌∙◌, subst, arith, inl, inr}
use Rattle.std.specs.Prelude.{All, Contains}
use Rattle.std.proofs.lemmas.Bool.{cases_lt}
use Rattle.std.proofs.lemmas.List.{get_or_append_left, get_or-map, length-map, map_push}
use Rattle.std.proofs.lemmas.List.Elements.{All-head, All-tail, All-weaker, All-contains}
use Rattle.std.specs.Option.{option_map}
use Rattle.std.proofs.lemmas.Option.{get_or_from_slice_get, slice_get_within, slice_get-map}
use Rattle.domain_core.specs.Domain.{Domain}
use Rattle.eu_name.specs.declared.name.TokenName.{TokenName}
use Rattle.eu_name.specs.declared.name.VarName.{VarName}
use Rattle.eu_name.specs.declared.name.VarName.TheVariants as name
use Rattle.model_core.specs.State.{VarDomain}
use Rattle.model_core.specs.Blocks.{TokenBlock}
use Rattle.token_store.specs.Tokens.{TokenList, token_names, with_token}
use Rattle.token_store.specs.Orders.{name_at}
use Rattle.token_store.specs.declared.trail.Token.{Token}
use Rattle.model_core.specs.Content.{Content, paired}
use Rattle.db_store.specs.declared.key.OpenBlock.{OpenBlock}
use Rattle.db_store.specs.declared.key.VarKey.{VarKey}
use Rattle.db_store.specs.declared.key.VarKey.TheVariants.{Global, Part, Local}
use Rattle.db_store.specs.Keys.{named_variable, named_block, IsKeyBelow}
use Rattle.db_store.specs.Stores.{Snapshot, named_content}
use Rattle.db_store.specs.Finding.{IsKeyOf, FindsKey}
use Rattle.db_store.specs.Puts.{FindsItem}
use Rattle.db_store.specs.StoreLaws.{NamesAreOnce, NamesHaveOneNumber, GivesByNumber, TokenIsAdded, StatesAreLeftOut, BlockIsAdded, VariableIsAdded}
use Rattle.db_store.proofs.Lists.{AreOnce, at_contains, contains_at, unmapped}
use Rattle.db_store.proofs.Snapshots.{names_push, names_state}

-- ---- nothing twice

item_at : {X : Type 0} (xs : List X) (i : ℕ) → i < length xs → (x : X) × (slice_get xs i ≡ Some x)
item_at [] i below = absurd (omega arith)
item_at (x ∷ xs) zero below = (x, refl)
item_at (x ∷ xs) (suc i) below = item_at xs i (omega arith)

-- what differs has names that differ, where a name is one thing's
once_named : {X Y : Type 0} (f : X → Y) (P : X → Type 0) → ((x y : X) → P x → P y → f x ≡ f y → x ≡ y) → (xs : List X) → All P xs → AreOnce xs → AreOnce (map f xs)
once_named f P one xs all once = λ i j d less within same.
    let long = length-map xs f in
    let a = item_at xs i (omega arith) in
    let b = item_at xs j (omega arith) in
    let here = get_or_from_slice_get xs i a.0 a.0 a.1 in
    let there = get_or_from_slice_get xs j b.0 a.0 b.1 in
    let named = get_or-map f xs i a.0 d (omega arith) ∙ ap f here in
    let other = get_or-map f xs j a.0 d (omega arith) ∙ ap f there in
    let is = one a.0 b.0 (subst P here (all i a.0 (omega arith))) (subst P there (all j a.0 (omega arith))) (sym named ∙ same ∙ other) in
    once i j a.0 less (omega arith) (here ∙ is ∙ sym there)

abbrev nameless : TokenName
nameless = record { root = 0; steps = [] }

pub same_place : (names : List TokenName) → AreOnce names → (p q : ℕ) → p < length names → q < length names → name_at names p ≡ name_at names q → p ≡ q
same_place names once p q below within same = elim (cases_lt p q) [
  | inl less ↦ absurd (once p q nameless less within same)
  | inr over ↦ elim (cases_lt q p) [ inl less ↦ absurd (once q p nameless less below (sym same)) | inr le ↦ omega arith ]
]

pub same_key : (names : List TokenName) → AreOnce names → (one other : VarKey) → IsKeyBelow (length names) one → IsKeyBelow (length names) other
    → named_variable names one ≡ named_variable names other → one ≡ other
same_key names once (Global m) (Global n) below within same = cc
same_key names once (Part p a) (Part q b) below within same =
    let place = same_place names once p q below within (cc) in
    let part : a ≡ b = cc in
    λ i. Part (place i) (part i)
same_key names once (Local p r m) (Local q s n) below within same =
    let place = same_place names once p q below within (cc) in
    let rule : r ≡ s = cc in
    let number : m ≡ n = cc in
    λ i. Local (place i) (rule i) (number i)
same_key names once one other below within same = absurd (cc)

same_block : (names : List TokenName) → AreOnce names → (one other : OpenBlock) → one.token < length names → other.token < length names
    → named_block names one ≡ named_block names other → one ≡ other
same_block names once one other below within same =
    let place = same_place names once one.token other.token below within (ap (λ (block : TokenBlock). block.token) same) in
    let rule = ap (λ (block : TokenBlock). block.rule) same in
    let path = ap (λ (block : TokenBlock). block.path) same in
    λ i. record { token = place i; rule = rule i; path = path i }

pub length_names : (tokens : TokenList) → length (token_names tokens) ≡ length tokens
length_names tokens = length-map tokens (λ (token : TokenName × Token). token.0)

pub names_are_once : NamesAreOnce
names_are_once snapshot is =
    let names = token_names snapshot.tokens in
    let long = length_names snapshot.tokens in
    record {
      tokens = is.tokens_once;
      blocks = once_named (named_block names) (λ (block : OpenBlock). block.token < length names) (same_block names is.tokens_once) snapshot.blocks
          (subst (λ n. All (λ (block : OpenBlock). block.token < n) snapshot.blocks) (sym long) is.of_tokens) is.blocks_once;
      names = once_named (named_variable names) (IsKeyBelow (length names)) (same_key names is.tokens_once) snapshot.keys
          (subst (λ n. All (IsKeyBelow n) snapshot.keys) (sym long) is.placed) is.keys_once;
      count = length-map snapshot.keys (named_variable names) ∙ is.count;
    }

pub names_have_one_number : NamesHaveOneNumber
names_have_one_number content one j k once is are = elim (cases_lt j k) [
  | inl less ↦ absurd (apart j k less is are)
  | inr over ↦ elim (cases_lt k j) [ inl less ↦ absurd (apart k j less are is) | inr le ↦ omega arith ]
]
  where
    apart : (i l : ℕ) → i < l → slice_get content.names i ≡ Some one → slice_get content.names l ≡ Some one → ⊥
    apart i l less here there =
        once.names i l one less (slice_get_within content.names l one there) (get_or_from_slice_get content.names i one one here ∙ sym (get_or_from_slice_get content.names l one one there))

-- ---- what a name is given

abbrev entry : VarName → Domain → VarDomain
entry name domain = record { name = name; domain = domain }

gives_at : (names : List VarName) (domains : List Domain) (name : VarName) (domain : Domain) (k : ℕ) → k < length (paired names domains) → get_or (paired names domains) k (entry name domain) ≡ entry name domain
    → (number : ℕ) × (slice_get names number ≡ Some name) × (slice_get domains number ≡ Some domain)
gives_at [] domains name domain k below is = absurd (omega arith)
gives_at (n ∷ names) [] name domain k below is = absurd (omega arith)
gives_at (n ∷ names) (d ∷ domains) name domain zero below is = (0, ap (λ (e : VarDomain). Some e.name) is, ap (λ (e : VarDomain). Some e.domain) is)
gives_at (n ∷ names) (d ∷ domains) name domain (suc k) below is =
    let rest = gives_at names domains name domain k (omega arith) is in
    (suc rest.0, rest.1, rest.2)

gives_from : (names : List VarName) (domains : List Domain) (name : VarName) (domain : Domain) (number : ℕ) → slice_get names number ≡ Some name → slice_get domains number ≡ Some domain
    → Contains (paired names domains) (entry name domain)
gives_from [] domains name domain number is gives = absurd (cc)
gives_from (n ∷ names) [] name domain number is gives = absurd (cc)
gives_from (n ∷ names) (d ∷ domains) name domain zero is gives =
    let one : n ≡ name = cc in
    let other : d ≡ domain = cc in
    (0, omega arith, λ i. entry (one i) (other i))
gives_from (n ∷ names) (d ∷ domains) name domain (suc number) is gives =
    let rest = gives_from names domains name domain number is gives in
    (suc rest.0, omega (arith, rest.1), rest.2)

pub gives_by_number : GivesByNumber
gives_by_number content name domain = (
  λ there. gives_at content.names content.domains name domain there.0 there.1 there.2,
  λ at. gives_from content.names content.domains name domain at.0 at.1 at.2,
)

-- ---- one thing more

map_same : {X Y : Type 0} (f g : X → Y) (xs : List X) → All (λ x. f x ≡ g x) xs → map f xs ≡ map g xs
map_same f g [] all = refl
map_same f g (x ∷ xs) all = λ i. All-head (λ x. f x ≡ g x) x xs all i ∷ map_same f g xs (All-tail (λ x. f x ≡ g x) x xs all) i

name_on : (names more : List TokenName) (place : ℕ) → place < length names → name_at (names ++ more) place ≡ name_at names place
name_on names more place below = get_or_append_left names more nameless place below

pub variable_on : (names more : List TokenName) (key : VarKey) → IsKeyBelow (length names) key → named_variable (names ++ more) key ≡ named_variable names key
variable_on names more (Global number) below = refl
variable_on names more (Part place part) below = ap (λ token. name.Token token part) (name_on names more place below)
variable_on names more (Local place rule number) below = ap (λ token. name.Local token rule number) (name_on names more place below)

pub token_is_added : TokenIsAdded
token_is_added snapshot one pred is =
    let names = token_names snapshot.tokens in
    let long = length_names snapshot.tokens in
    let more = names_push snapshot.tokens one pred in
    let blocks : map (named_block (names ++ one ∷ [])) snapshot.blocks ≡ map (named_block names) snapshot.blocks =
    map_same (named_block (names ++ one ∷ [])) (named_block names) snapshot.blocks
    (All-weaker (λ (block : OpenBlock). block.token < length snapshot.tokens) (λ (block : OpenBlock). named_block (names ++ one ∷ []) block ≡ named_block names block)
    (λ block below. λ i. record { token = name_on names (one ∷ []) block.token (omega (arith, below, long)) i; rule = block.rule; path = block.path }) snapshot.blocks is.of_tokens) in
    let keys : map (named_variable (names ++ one ∷ [])) snapshot.keys ≡ map (named_variable names) snapshot.keys =
    map_same (named_variable (names ++ one ∷ [])) (named_variable names) snapshot.keys
    (All-weaker (IsKeyBelow (length snapshot.tokens)) (λ (key : VarKey). named_variable (names ++ one ∷ []) key ≡ named_variable names key)
    (λ key below. variable_on names (one ∷ []) key (subst (λ n. IsKeyBelow n key) (sym long) below)) snapshot.keys is.placed) in
    λ i. record {
      tokens = more i;
      blocks = let e : map (named_block (token_names (with_token snapshot.tokens one pred))) snapshot.blocks ≡ map (named_block names) snapshot.blocks =
          ap (λ list. map (named_block list) snapshot.blocks) more ∙ blocks in e i;
      names = let e : map (named_variable (token_names (with_token snapshot.tokens one pred))) snapshot.keys ≡ map (named_variable names) snapshot.keys =
          ap (λ list. map (named_variable list) snapshot.keys) more ∙ keys in e i;
      domains = snapshot.domains;
    }

-- the content of a snapshot whose tokens have these names
content_by : Snapshot → List TokenName → Content
content_by snapshot names =
    record {
      tokens = names;
      blocks = map (named_block names) snapshot.blocks;
      names = map (named_variable names) snapshot.keys;
      domains = snapshot.domains;
    }

pub states_are_left_out : StatesAreLeftOut
unfolding content_by
states_are_left_out snapshot place state = ap (content_by snapshot) (names_state snapshot.tokens place state)

pub block_is_added : BlockIsAdded
block_is_added snapshot block =
    let content = named_content snapshot in
    ap (λ (blocks : List TokenBlock). record content { blocks = blocks }) (map_push (named_block content.tokens) snapshot.blocks block)

pub variable_is_added : VariableIsAdded
variable_is_added snapshot key domain =
    let content = named_content snapshot in
    ap (λ (names : List VarName). record content { names = names; domains = content.domains ++ domain ∷ [] }) (map_push (named_variable content.tokens) snapshot.keys key)

-- ---- keys by name

module _ (tokens : TokenList) (keys : List VarKey) (below : All (IsKeyBelow (length tokens)) keys) (one : VarName) where
  abbrev by_name : List VarName
  by_name = map (named_variable (token_names tokens)) keys

  -- a name that is there is that of a key
  key_there : Contains by_name one → (key : VarKey) × Contains keys key × IsKeyOf tokens one key
  key_there there =
      let at = at_contains by_name one there in
      let is = unmapped (named_variable (token_names tokens)) keys at.0 one at.1 in
      let here = contains_at keys at.0 is.0 is.1 in
      (is.0, here, (All-contains (IsKeyBelow (length tokens)) keys is.0 below here, is.2))

  pub named_nowhere : FindsKey tokens one None → FindsItem by_name one None
  named_nowhere none = λ there. let key = key_there there in none key.0 key.2

  pub named_by_key : (key : VarKey) → FindsKey tokens one (Some key) → (found : Option ℕ) → FindsItem keys key found → FindsItem by_name one found
  named_by_key key finds None nowhere = λ there. let other = key_there there in nowhere (subst (Contains keys) (finds.1 other.0 other.2) other.1)
  named_by_key key finds (Some k) at = slice_get-map (named_variable (token_names tokens)) keys k ∙ ap (option_map (named_variable (token_names tokens))) at ∙ ap Some finds.0.1
