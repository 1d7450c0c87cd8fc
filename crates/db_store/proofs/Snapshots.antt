-- What comes to a snapshot leaves it one.
use Rattle.std.proofs.Common.{◌≡◌, ℕ, zero, suc, ◌<◌, ◌≤◌, List, [], ◌∷◌, ◌++◌, length, refl, sym, ap, ◌∙◌, subst, arith}
use Rattle.std.specs.Prelude.{All, Contains}
use Rattle.std.proofs.lemmas.List.{length_push, length-map, map_push}
use Rattle.std.proofs.lemmas.List.Elements.{All-push, All-weaker}
use Rattle.domain_core.specs.Domain.{Domain, IsDomain}
use Rattle.eu_name.specs.declared.name.TokenName.{TokenName}
use Rattle.model_core.specs.declared.view.TokenState.{TokenState}
use Rattle.model_core.specs.declared.view.TokenState.TheVariants.{Inactive}
use Rattle.narrow_core.specs.declared.field.Field.{Field}
use Rattle.constraint_net.specs.declared.constraint.Constraint.{Constraint}
use Rattle.token_store.specs.Tokens.{TokenList, token_names, with_token, with_state, IsNewName}
use Rattle.token_store.specs.declared.trail.Token.{Token}
use Rattle.db_store.specs.declared.key.OpenBlock.{OpenBlock}
use Rattle.db_store.specs.declared.key.VarKey.{VarKey}
use Rattle.db_store.specs.declared.key.VarKey.TheVariants.{Global, Part, Local}
use Rattle.db_store.specs.declared.watchers.Watch.{Watch}
use Rattle.db_store.specs.Keys.{IsKeyBelow}
use Rattle.db_store.specs.Stores.{Snapshot, IsSnapshot}
use Rattle.db_store.proofs.Lists.{AreOnce, once_push, at_contains}

pub below_more : (n m : ℕ) → n ≤ m → (key : VarKey) → IsKeyBelow n key → IsKeyBelow m key
below_more n m more (Global number) is = tt
below_more n m more (Part place part) is = omega arith
below_more n m more (Local place rule number) is = omega arith

-- what goes by tokens goes by as many tokens and more
tokens_more : (snapshot : Snapshot) (tokens : TokenList) → IsSnapshot snapshot → length snapshot.tokens ≤ length tokens → AreOnce (token_names tokens)
    → IsSnapshot (record snapshot { tokens = tokens })
tokens_more snapshot tokens is more once = record {
  tokens_once = once;
  keys_once = is.keys_once;
  blocks_once = is.blocks_once;
  count = is.count;
  are = is.are;
  placed = All-weaker (IsKeyBelow (length snapshot.tokens)) (IsKeyBelow (length tokens)) (below_more (length snapshot.tokens) (length tokens) more) snapshot.keys is.placed;
  of_tokens = All-weaker (λ (block : OpenBlock). block.token < length snapshot.tokens) (λ (block : OpenBlock). block.token < length tokens) (λ block below. omega arith) snapshot.blocks is.of_tokens;
  watched = is.watched;
}

pub names_state : (tokens : TokenList) (place : ℕ) (state : TokenState) → token_names (with_state tokens place state) ≡ token_names tokens
names_state [] place state = refl
names_state (token ∷ tokens) zero state = refl
names_state (token ∷ tokens) (suc place) state = ap (λ names. token.0 ∷ names) (names_state tokens place state)

abbrev pub fresh_token : TokenName → ℕ → TokenName × Token
fresh_token name pred = (name, record { pred = pred; state = Inactive })

pub names_push : (tokens : TokenList) (name : TokenName) (pred : ℕ) → token_names (with_token tokens name pred) ≡ token_names tokens ++ name ∷ []
names_push tokens name pred = map_push (λ (token : TokenName × Token). token.0) tokens (fresh_token name pred)

pub with_a_token : (snapshot : Snapshot) (name : TokenName) (pred : ℕ) → IsSnapshot snapshot → IsNewName snapshot.tokens name
    → IsSnapshot (record snapshot { tokens = with_token snapshot.tokens name pred })
with_a_token snapshot name pred is new =
    tokens_more snapshot (with_token snapshot.tokens name pred) is (omega (arith, length_push snapshot.tokens (fresh_token name pred)))
    (subst AreOnce (sym (names_push snapshot.tokens name pred)) (once_push (token_names snapshot.tokens) name is.tokens_once
    (λ there. let at = at_contains (token_names snapshot.tokens) name there in new at.0 at.1)))

pub with_a_state : (snapshot : Snapshot) (place : ℕ) (state : TokenState) → IsSnapshot snapshot
    → IsSnapshot (record snapshot { tokens = with_state snapshot.tokens place state })
with_a_state snapshot place state is =
    let names = names_state snapshot.tokens place state in
    let long : length snapshot.tokens ≤ length (with_state snapshot.tokens place state) =
    omega (arith, ap length names, length-map snapshot.tokens (λ (token : TokenName × Token). token.0), length-map (with_state snapshot.tokens place state) (λ (token : TokenName × Token). token.0)) in
    tokens_more snapshot (with_state snapshot.tokens place state) is long (subst AreOnce (sym names) is.tokens_once)

abbrev IsWatchBelow : ℕ → ℕ → Watch → Type 0
IsWatchBelow variables blocks watch = (watch.variable < variables) × (watch.block < blocks)

watches_more : (variables blocks more others : ℕ) → variables ≤ more → blocks ≤ others → (watches : List Watch)
    → All (IsWatchBelow variables blocks) watches → All (IsWatchBelow more others) watches
watches_more variables blocks more others p q watches all =
    All-weaker (IsWatchBelow variables blocks) (IsWatchBelow more others) (λ watch below. (omega (arith, below.0), omega (arith, below.1))) watches all

pub with_a_variable : (snapshot : Snapshot) (key : VarKey) (domain : Domain) → IsSnapshot snapshot
    → IsKeyBelow (length snapshot.tokens) key → (Contains snapshot.keys key → ⊥) → IsDomain domain
    → IsSnapshot (record snapshot { keys = snapshot.keys ++ key ∷ []; domains = snapshot.domains ++ domain ∷ [] })
with_a_variable snapshot key domain is below fresh a_domain = record {
  tokens_once = is.tokens_once;
  keys_once = once_push snapshot.keys key is.keys_once fresh;
  blocks_once = is.blocks_once;
  count = omega (arith, is.count, length_push snapshot.keys key, length_push snapshot.domains domain);
  are = All-push IsDomain snapshot.domains domain is.are a_domain;
  placed = All-push (IsKeyBelow (length snapshot.tokens)) snapshot.keys key is.placed below;
  of_tokens = is.of_tokens;
  watched = watches_more (length snapshot.keys) (length snapshot.blocks) (length (snapshot.keys ++ key ∷ [])) (length snapshot.blocks)
      (omega (arith, length_push snapshot.keys key)) (omega arith) snapshot.watches is.watched;
}

pub with_a_block : (snapshot : Snapshot) (block : OpenBlock) → IsSnapshot snapshot
    → block.token < length snapshot.tokens → (Contains snapshot.blocks block → ⊥)
    → IsSnapshot (record snapshot { blocks = snapshot.blocks ++ block ∷ [] })
with_a_block snapshot block is below fresh = record {
  tokens_once = is.tokens_once;
  keys_once = is.keys_once;
  blocks_once = once_push snapshot.blocks block is.blocks_once fresh;
  count = is.count;
  are = is.are;
  placed = is.placed;
  of_tokens = All-push (λ (one : OpenBlock). one.token < length snapshot.tokens) snapshot.blocks block is.of_tokens below;
  watched = watches_more (length snapshot.keys) (length snapshot.blocks) (length snapshot.keys) (length (snapshot.blocks ++ block ∷ []))
      (omega arith) (omega (arith, length_push snapshot.blocks block)) snapshot.watches is.watched;
}

pub with_a_watch : (snapshot : Snapshot) (variable block : ℕ) → IsSnapshot snapshot → variable < length snapshot.keys → block < length snapshot.blocks
    → IsSnapshot (record snapshot { watches = snapshot.watches ++ record { variable = variable; block = block } ∷ [] })
with_a_watch snapshot variable block is one other = record {
  tokens_once = is.tokens_once;
  keys_once = is.keys_once;
  blocks_once = is.blocks_once;
  count = is.count;
  are = is.are;
  placed = is.placed;
  of_tokens = is.of_tokens;
  watched = All-push (IsWatchBelow (length snapshot.keys) (length snapshot.blocks)) snapshot.watches (record { variable = variable; block = block }) is.watched (one, other);
}

pub with_domains_posted : (snapshot : Snapshot) (domains : List Domain) (posted : List Constraint) (tables : List Field) → IsSnapshot snapshot → length domains ≡ length snapshot.domains → All IsDomain domains
    → IsSnapshot (record snapshot { domains = domains; posted = posted; tables = tables })
with_domains_posted snapshot domains posted tables is long all = record {
  tokens_once = is.tokens_once;
  keys_once = is.keys_once;
  blocks_once = is.blocks_once;
  count = is.count ∙ sym long;
  are = all;
  placed = is.placed;
  of_tokens = is.of_tokens;
  watched = is.watched;
}
