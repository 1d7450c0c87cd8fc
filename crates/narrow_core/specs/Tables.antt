-- Tables of what each object has in a field, and how they are kept.
use Rattle.std.specs.Prelude.{◌≤ℤ◌, ◌↔◌, List, AllPairs, Contains}
use Rattle.narrow_core.specs.declared.field.FieldEntry.{FieldEntry}
use Rattle.narrow_core.specs.declared.field.Side.{Side}
use Rattle.narrow_core.specs.declared.field.Side.TheVariants.{Object, Value}
use Rattle.narrow_core.specs.Sides.{side_of}

-- what each object has in the field
pub record Table : Type 0 where
  pub entries : List FieldEntry

-- what the entries have on this side never falls
abbrev pub IsInOrderOf : Side → List FieldEntry → Type 0
IsInOrderOf side entries = AllPairs (λ one later. side_of one side ≤ℤ side_of later side) entries

-- the entries in the order of the objects, and the same in the order of the values
pub record AreOrders (by_object by_value : List FieldEntry) : Type 0 where
  pub objects : IsInOrderOf Object by_object
  pub values : IsInOrderOf Value by_value
  pub same : (entry : FieldEntry) → Contains by_value entry ↔ Contains by_object entry
