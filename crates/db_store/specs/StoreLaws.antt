-- What is proved of snapshots by names.
use Rattle.std.specs.Prelude.{◌≡◌, ◌≢◌, ◌↔◌, ℕ, List, [], ◌∷◌, ◌++◌, length, slice_get, AllPairs, Contains}
use Rattle.std.specs.Prelude.{Some}
use Rattle.domain_core.specs.Domain.{Domain}
use Rattle.eu_name.specs.declared.name.TokenName.{TokenName}
use Rattle.eu_name.specs.declared.name.VarName.{VarName}
use Rattle.model_core.specs.State.{Gives}
use Rattle.model_core.specs.declared.view.TokenState.{TokenState}
use Rattle.token_store.specs.Tokens.{token_names, with_token, with_state}
use Rattle.model_core.specs.Content.{Content, shown}
use Rattle.db_store.specs.declared.key.OpenBlock.{OpenBlock}
use Rattle.db_store.specs.declared.key.VarKey.{VarKey}
use Rattle.db_store.specs.Keys.{named_variable, named_block}
use Rattle.db_store.specs.declared.store.Mark.{Mark}
use Rattle.db_store.specs.declared.watchers.Watch.{Watch}
use Rattle.db_store.specs.Stores.{Stored, Snapshot, snapshot_of, IsSnapshot, named_content, blocks_watching}
use Rattle.db_store.specs.Stamps.{FollowStamps, StampsRise}
use Rattle.db_store.specs.StoreMarks.{IsStoreMark, IsMarkBefore, KeepStoreMarks, GoesBackTo}

-- no token, no block and no variable is in the content twice, and each variable has a domain
pub record HasEachOnce (content : Content) : Type 0 where
  pub tokens : AllPairs (λ one other. one ≢ other) content.tokens
  pub blocks : AllPairs (λ one other. one ≢ other) content.blocks
  pub names : AllPairs (λ one other. one ≢ other) content.names
  pub count : length content.names ≡ length content.domains

-- so it is with the content of a snapshot
abbrev pub NamesAreOnce : Type 0
NamesAreOnce = (snapshot : Snapshot) → IsSnapshot snapshot → HasEachOnce (named_content snapshot)

-- then a name has one number
abbrev pub NamesHaveOneNumber : Type 0
NamesHaveOneNumber =
    (content : Content) (name : VarName) (one other : ℕ) → HasEachOnce content
    → slice_get content.names one ≡ Some name → slice_get content.names other ≡ Some name → one ≡ other

-- a content gives a variable a domain exactly where the two stand at one number
abbrev pub GivesByNumber : Type 0
GivesByNumber =
    (content : Content) (name : VarName) (domain : Domain)
    → Gives (shown content) name domain
    ↔ ((number : ℕ) × (slice_get content.names number ≡ Some name) × (slice_get content.domains number ≡ Some domain))

-- one token more is one name more
abbrev pub TokenIsAdded : Type 0
TokenIsAdded =
    (snapshot : Snapshot) (name : TokenName) (pred : ℕ) → IsSnapshot snapshot
    → named_content (record snapshot { tokens = with_token snapshot.tokens name pred })
    ≡ record (named_content snapshot) { tokens = token_names snapshot.tokens ++ name ∷ [] }

-- and the states of tokens aren't in it
abbrev pub StatesAreLeftOut : Type 0
StatesAreLeftOut =
    (snapshot : Snapshot) (place : ℕ) (state : TokenState)
    → named_content (record snapshot { tokens = with_state snapshot.tokens place state }) ≡ named_content snapshot

-- one block more
abbrev pub BlockIsAdded : Type 0
BlockIsAdded =
    (snapshot : Snapshot) (block : OpenBlock)
    → named_content (record snapshot { blocks = snapshot.blocks ++ block ∷ [] })
    ≡ (let content = named_content snapshot in
    record content { blocks = content.blocks ++ named_block content.tokens block ∷ [] })

-- one variable more, with its domain
abbrev pub VariableIsAdded : Type 0
VariableIsAdded =
    (snapshot : Snapshot) (key : VarKey) (domain : Domain)
    → named_content (record snapshot { keys = snapshot.keys ++ key ∷ []; domains = snapshot.domains ++ domain ∷ [] })
    ≡ (let content = named_content snapshot in
    record content {
      names = content.names ++ named_variable content.tokens key ∷ [];
      domains = content.domains ++ domain ∷ [];
    })

-- other domains are other domains
abbrev pub DomainsAreReplaced : Type 0
DomainsAreReplaced =
    (snapshot : Snapshot) (domains : List Domain)
    → named_content (record snapshot { domains = domains }) ≡ record (named_content snapshot) { domains = domains }

-- a block is among those that watch a variable exactly where the two stand together
abbrev pub WatchersAreListed : Type 0
WatchersAreListed =
    (watches : List Watch) (variable block : ℕ)
    → Contains (blocks_watching watches variable) block
    ↔ Contains watches (record { variable = variable; block = block })

-- marks are in order
pub record MarksAreInOrder : Type 0 where
  pub same : (mark : Mark) → IsMarkBefore mark mark
  pub through : (one other later : Mark) → IsMarkBefore one other → IsMarkBefore other later → IsMarkBefore one later

-- where a store has gone on, stamps follow the domains
abbrev pub StampsFollow : Type 0
StampsFollow =
    (old new : Stored) → IsSnapshot (snapshot_of old) → IsSnapshot (snapshot_of new)
    → KeepStoreMarks old new → FollowStamps old new

-- where a store has gone on from a mark and back to it, no stamp is less than it was
abbrev pub StampsRiseOnTheWayBack : Type 0
StampsRiseOnTheWayBack =
    (mark : Mark) (old middle new : Stored) → IsStoreMark old mark (snapshot_of old)
    → KeepStoreMarks old middle → GoesBackTo mark middle new → StampsRise old new

-- nor where nothing has happened to it
abbrev pub StampsStay : Type 0
StampsStay = (stored : Stored) → IsSnapshot (snapshot_of stored) → StampsRise stored stored
