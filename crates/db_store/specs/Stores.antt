-- What a store keeps, and what of it can be gone back to.
use Rattle.std.specs.Prelude.{◌≡◌, ◌≢◌, ◌==◌, ℕ, ◌<◌, List, length, map, filter, All, AllPairs}
use Rattle.domain_core.specs.Domain.{Domain, IsDomain}
use Rattle.eu_name.specs.declared.name.VarName.{VarName}
use Rattle.token_store.specs.Tokens.{TokenList, TokenPast, tokens_now, token_names}
use Rattle.narrow_core.specs.declared.field.Field.{Field}
use Rattle.constraint_net.specs.Networks.{Network}
use Rattle.constraint_net.specs.declared.constraint.Constraint.{Constraint}
use Rattle.model_core.specs.Content.{Content}
use Rattle.db_store.specs.Keys.{named_variable, named_block, IsKeyBelow}
use Rattle.db_store.specs.declared.key.OpenBlock.{OpenBlock}
use Rattle.db_store.specs.declared.key.VarKey.{VarKey}
use Rattle.db_store.specs.declared.watchers.Watch.{Watch}

-- a store: the lists of tokens that can be gone back to, the present one first; the keys of the variables, the open blocks and
-- what watches what, each in the order in which they came; and the network, whose variables have the numbers of the keys
pub record Stored : Type 0 where
  pub past : TokenPast
  pub keys : List VarKey
  pub blocks : List OpenBlock
  pub watches : List Watch
  pub net : Network

-- what of a store can be gone back to
pub record Snapshot : Type 0 where
  pub tokens : TokenList
  pub keys : List VarKey
  pub blocks : List OpenBlock
  pub watches : List Watch
  pub domains : List Domain
  pub posted : List Constraint
  pub tables : List Field

-- what there is now
abbrev pub snapshot_of : Stored → Snapshot
snapshot_of stored =
    record {
      tokens = tokens_now stored.past;
      keys = stored.keys;
      blocks = stored.blocks;
      watches = stored.watches;
      domains = stored.net.domains;
      posted = stored.net.constraints;
      tables = stored.net.tables;
    }

-- nothing is there twice, each variable has a domain, and what goes by the number of a token, a variable or a block goes by
-- one that there is
pub record IsSnapshot (snapshot : Snapshot) : Type 0 where
  pub tokens_once : AllPairs (λ one other. one ≢ other) (token_names snapshot.tokens)
  pub keys_once : AllPairs (λ one other. one ≢ other) snapshot.keys
  pub blocks_once : AllPairs (λ one other. one ≢ other) snapshot.blocks
  pub count : length snapshot.keys ≡ length snapshot.domains
  pub are : All IsDomain snapshot.domains
  pub placed : All (IsKeyBelow (length snapshot.tokens)) snapshot.keys
  pub of_tokens : All (λ block. block.token < length snapshot.tokens) snapshot.blocks
  pub watched : All (λ watch. (watch.variable < length snapshot.keys) × (watch.block < length snapshot.blocks)) snapshot.watches

-- the blocks that watch the variable, by number
abbrev pub blocks_watching : List Watch → ℕ → List ℕ
blocks_watching watches variable = map (λ watch. watch.block) (filter (λ watch. watch.variable == variable) watches)

-- the names of the variables, by number
abbrev pub variable_names : Snapshot → List VarName
variable_names snapshot = map (named_variable (token_names snapshot.tokens)) snapshot.keys

-- the snapshot by names
abbrev pub named_content : Snapshot → Content
named_content snapshot =
    record {
      tokens = token_names snapshot.tokens;
      blocks = map (named_block (token_names snapshot.tokens)) snapshot.blocks;
      names = variable_names snapshot;
      domains = snapshot.domains;
    }
