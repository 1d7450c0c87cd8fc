-- Tables of what objects have in their fields.
use Rattle.std.specs.Prelude.{◌≡◌, ◌≤◌, ◌↔◌, ℕ, ℤ, List, [], ◌∷◌, ◌++◌, length, All, Contains}
use Rattle.model_core.specs.declared.model.Model.{Model}
use Rattle.narrow_core.specs.declared.field.Field.{Field}
use Rattle.constraint_net.specs.Calls.{IsAscending, table_of}
use Rattle.plan_defs.specs.Consistency.{HasField}
use Rattle.db_store.specs.Stores.{Stored}

-- the pairs are the objects that have the field, in ascending order, each with its value
pub record ListsField (model : Model) (number : ℕ) (pairs : List (ℤ × ℤ)) : Type 0 where
  pub ascending : IsAscending pairs
  pub each : (object value : ℤ) → Contains pairs (object, value) ↔ HasField model number object value

-- behind the tables comes that of the next field
abbrev pub AddsField : Model → List Field → List Field → Type 0
AddsField model old new =
    (pairs : List (ℤ × ℤ)) × ListsField model (length old) pairs × (new ≡ old ++ table_of pairs ∷ [])

-- there is a table for each field of each class
abbrev pub HaveTables : Model → List Field → Type 0
HaveTables model tables = All (λ class. length class.fields ≤ length tables) model.classes

-- but for the tables of the network nothing changes
abbrev pub OnlyTables : Stored → Stored → Type 0
OnlyTables old new = new ≡ record old { net = record old.net { tables = new.net.tables } }
