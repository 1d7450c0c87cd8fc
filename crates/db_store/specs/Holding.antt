-- How a store is held.
use Rattle.std.specs.Prelude.{List}
use Rattle.token_store.specs.Tokens.{TokenPast}
use Rattle.constraint_net.specs.Networks.{Network}
use Rattle.db_store.specs.Stores.{Stored}
use Rattle.db_store.specs.declared.key.OpenBlock.{OpenBlock}
use Rattle.db_store.specs.declared.key.VarKey.{VarKey}
use Rattle.db_store.specs.declared.watchers.Watch.{Watch}

-- the store of these parts
abbrev pub stored_of : TokenPast → List VarKey → List OpenBlock → List Watch → Network → Stored
stored_of past keys blocks watches net =
    record { past = past; keys = keys; blocks = blocks; watches = watches; net = net }
