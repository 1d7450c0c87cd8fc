-- A store before any decision.
use Rattle.std.specs.Prelude.{◌≡◌, ℕ, ◌<◌, ⊤, List, [], ◌∷◌, length, Some, slice_get, Contains, Result, Ok, Err}
use Rattle.model_core.specs.declared.item.Item.{Item}
use Rattle.model_core.specs.declared.model.Model.{Model}
use Rattle.model_core.specs.declared.variable.Base.{Base}
use Rattle.model_core.specs.declared.variable.VarDecl.{VarDecl}
use Rattle.model_core.specs.Decided.{IsTaken}
use Rattle.constraint_net.specs.declared.NetFault.{NetFault}
use Rattle.constraint_net.specs.declared.NetFault.TheVariants.{Collapsed, Memory}
use Rattle.plan_defs.specs.Claims.{Claim, ItemSays}
use Rattle.plan_defs.specs.Terms.{InProblem}
use Rattle.db_refine.specs.Claims.{IsPostedIn}
use Rattle.db_refine.specs.Growth.{LeaveNothing}
use Rattle.db_store.specs.Stores.{Stored}
use Rattle.db_store.specs.declared.key.VarKey.{VarKey}
use Rattle.db_store.specs.declared.key.VarKey.TheVariants.{Global}
use Rattle.db_posting.specs.Origins.{content_now}
use Rattle.db_posting.specs.Tables.{HaveTables}
use Rattle.db_opening.specs.Begun.{IsBegun}
use Rattle.db_posting.specs.Underway.{IsStoreUnderway}

-- the variable is one of these globals, with its base
pub record WantsGlobal (globals : List VarDecl) (key : VarKey) (base : Base) : Type 0 where
  pub number : ℕ
  pub variable : VarDecl
  pub is : key ≡ Global number
  pub declared : slice_get globals number ≡ Some variable
  pub is_base : base ≡ variable.base

-- nothing is in the store
pub record IsBare (stored : Stored) : Type 0 where
  pub past : stored.past ≡ [] ∷ []
  pub keys : stored.keys ≡ []
  pub blocks : stored.blocks ≡ []
  pub domains : stored.net.domains ≡ []
  pub tables : stored.net.tables ≡ []
  pub constraints : stored.net.constraints ≡ []

-- all that these items of the problem say without any decision is posted
abbrev pub AreItemsSaid : Model → List Item → Stored → Type 0
AreItemsSaid model items stored =
    (item : Item) (claim : Claim) → Contains items item → ItemSays model (IsTaken []) InProblem item claim
    → IsPostedIn (content_now stored).names stored.net.constraints claim

-- before any decision the store is underway where all its variables are due, and there is a table for each field
pub record IsBeginning (model : Model) (stored : Stored) : Type 0 where
  pub underway : (due : List ℕ) → ((number : ℕ) → number < length stored.keys → Contains due number)
      → IsStoreUnderway model [] [] stored 0 due
  pub tables : HaveTables model stored.net.tables

-- what adding the tables and the globals answers and leaves: a global may have a void base
abbrev pub BeginsGlobals : Model → Result (Unit {0}) NetFault → Stored → Type 0
BeginsGlobals model (Ok done) stored = IsBegun model stored × HaveTables model stored.net.tables
BeginsGlobals model (Err Collapsed) stored = LeaveNothing model []
BeginsGlobals model (Err Memory) stored = ⊤

-- what adding all that the problem asks for answers and leaves
abbrev pub FillsStore : Model → Result (Unit {0}) NetFault → Stored → Type 0
FillsStore model (Ok done) stored = IsBeginning model stored
FillsStore model (Err Collapsed) stored = LeaveNothing model []
FillsStore model (Err Memory) stored = ⊤

-- a store that has begun so, or that nothing is left
abbrev pub BeginsFrom : Model → Result Stored NetFault → Type 0
BeginsFrom model (Ok stored) = IsBeginning model stored
BeginsFrom model (Err Collapsed) = LeaveNothing model []
BeginsFrom model (Err Memory) = ⊤
