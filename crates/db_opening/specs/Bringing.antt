-- Variables that come to a store with their bases.
use Rattle.std.specs.Prelude.{◌≡◌, ⊤, List, ◌++◌, map, All, Contains, Result, Ok, Err}
use Rattle.domain_core.specs.Domain.{Domain}
use Rattle.model_core.specs.declared.variable.Base.{Base}
use Rattle.model_core.specs.declared.variable.Base.TheVariants.{Given, Void}
use Rattle.constraint_net.specs.declared.NetFault.{NetFault}
use Rattle.constraint_net.specs.declared.NetFault.TheVariants.{Collapsed, Memory}
use Rattle.db_store.specs.declared.key.VarKey.{VarKey}
use Rattle.db_store.specs.Stores.{Stored}

-- a variable of a store, with its domain
pub record KeyDomain : Type 0 where
  pub key : VarKey
  pub domain : Domain

-- of the store at most variables and their domains have changed
pub record KeepsRest (old new : Stored) : Type 0 where
  pub past : new.past ≡ old.past
  pub blocks : new.blocks ≡ old.blocks
  pub watches : new.watches ≡ old.watches
  pub tables : new.net.tables ≡ old.net.tables
  pub constraints : new.net.constraints ≡ old.net.constraints
  pub changed : new.net.changed ≡ old.net.changed

-- behind the variables that were there come some of those that are wanted, each with its base, and each of these is there
pub record BringsKeys (Wanted : VarKey → Base → Type 0) (old new : Stored) : Type 0 where
  pub added : List KeyDomain
  pub keys : new.keys ≡ old.keys ++ map (λ each. each.key) added
  pub domains : new.net.domains ≡ old.net.domains ++ map (λ each. each.domain) added
  pub each : All (λ each. Wanted each.key (Given each.domain)) added
  pub all : (key : VarKey) (base : Base) → Wanted key base → Contains new.keys key
  pub rest : KeepsRest old new

-- what bringing the variables that are wanted answers and leaves: one of them may have a void base
abbrev pub Brings : (VarKey → Base → Type 0) → Stored → Result (Unit {0}) NetFault → Stored → Type 0
Brings Wanted old (Ok done) new = BringsKeys Wanted old new
Brings Wanted old (Err Collapsed) new = (key : VarKey) × Wanted key Void
Brings Wanted old (Err Memory) new = ⊤
