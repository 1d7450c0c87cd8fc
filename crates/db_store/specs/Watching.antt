-- How it is kept which blocks watch a variable.
use Rattle.std.specs.Prelude.{◌≡◌, ℕ, List}
use Rattle.token_store.specs.declared.lists.Lists.{Lists}
use Rattle.token_store.specs.Listed.{lists_of}
use Rattle.db_store.specs.Stores.{blocks_watching}
use Rattle.db_store.specs.declared.watchers.Watch.{Watch}

-- under each variable the blocks are listed that watch it
abbrev pub AreListedUnder : List Watch → Lists → Type 0
AreListedUnder watches lists = (variable : ℕ) → lists_of lists variable ≡ blocks_watching watches variable
