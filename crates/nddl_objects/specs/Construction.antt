-- Objects that are made one after another, and what is found to be wrong on the way.
use Rattle.std.specs.Prelude.{ℕ, Bool, true, not, nat_lt, List, [], ◌∷◌, ◌++◌, Option, length, slice_get}
use Rattle.std.specs.Prelude.{slice_set, if◌then◌else◌}
use Rattle.std.specs.Option.{option_map_or}
use Rattle.nddl_ast.specs.declared.kind.TextKind.{TextKind}
use Rattle.nddl_ast.specs.declared.kind.TextKind.TheVariants as faults
use Rattle.nddl_symbols.specs.declared.place.Place.{Place}
use Rattle.nddl_symbols.specs.declared.fault.Fault.{Fault}
use Rattle.nddl_symbols.specs.declared.scope.Meaning.{Meaning}
use Rattle.nddl_symbols.specs.Finding.{earliest_fault, faults_here}
use Rattle.nddl_symbols.specs.Scope.{fault_if}
use Rattle.nddl_construction.specs.declared.made.Datum.{Datum}
use Rattle.nddl_construction.specs.declared.made.FieldValue.{FieldValue}
use Rattle.nddl_construction.specs.declared.made.MadeObject.{MadeObject}
use Rattle.nddl_objects.specs.declared.making.Making as code
use Rattle.nddl_objects.specs.declared.making.Request as request_code
use Rattle.nddl_objects.specs.declared.making.Subject as subject_code

-- ---- where the making has got to

-- the objects so far, the earliest of what making them has met that is wrong, and whether there were too many, or too deep in
-- one another
pub record Construction : Type 0 where
  pub objects : List MadeObject
  pub first : Option Fault
  pub is_full : Bool
  pub is_deep : Bool

abbrev pub construction_of : code.Making → Construction
construction_of making =
    record {
      objects = making.objects.items;
      first = making.first;
      is_full = making.is_full;
      is_deep = making.is_deep;
    }

-- these faults are noted as well
abbrev pub noted : Construction → List Fault → Construction
noted so_far some =
    record {
      objects = so_far.objects;
      first = earliest_fault so_far.first some;
      is_full = so_far.is_full;
      is_deep = so_far.is_deep;
    }

-- the objects are these
abbrev pub with_objects : Construction → List MadeObject → Construction
with_objects so_far objects =
    record { objects = objects; first = so_far.first; is_full = so_far.is_full; is_deep = so_far.is_deep }

-- ---- objects that are asked for

-- An object of this class is to be made with these arguments. It has this name, that of this number of the scope if it is
-- declared there, and stands behind the `new` before this place.
pub record Asked : Type 0 where
  pub name : List ℕ
  pub entry : Option ℕ
  pub place : Place
  pub class : Meaning
  pub values : List (Option Datum)

abbrev pub asked_of : request_code.Request → Asked
asked_of request =
    record {
      name = request.name.now;
      entry = request.entry;
      place = request.place;
      class = request.class;
      values = request.values.now;
    }

-- it is there, and none of its fields is set yet
abbrev pub object_begun : Construction → Asked → Construction
object_begun so_far asked =
    with_objects so_far
    (so_far.objects ++ record { name = asked.name; entry = asked.entry; class = asked.class; fields = [] } ∷ [])

-- ---- limits

abbrev pub most_objects : ℕ
most_objects = 4096

-- one object more can be made
abbrev pub has_room : Construction → Bool
has_room so_far = nat_lt (length so_far.objects) most_objects

-- a fault of this kind at this place, unless there was one of it before
abbrev pub first_of_kind : Bool → Place → TextKind → List Fault
first_of_kind before place kind = faults_here place.decl place.at (fault_if (not before) kind)

-- there are too many objects
abbrev pub too_many : Construction → Place → Construction
too_many so_far place =
    record {
      objects = so_far.objects;
      first = earliest_fault so_far.first (first_of_kind so_far.is_full place faults.LimitObjects);
      is_full = true;
      is_deep = so_far.is_deep;
    }

-- they are made too deep in one another
abbrev pub too_deep : Construction → Place → Construction
too_deep so_far place =
    record {
      objects = so_far.objects;
      first = earliest_fault so_far.first (first_of_kind so_far.is_deep place faults.LimitNew);
      is_full = so_far.is_full;
      is_deep = true;
    }

-- there are too many, if one object more would be one too many
abbrev pub counted : Construction → Place → Construction
counted so_far place = if has_room so_far then so_far else too_many so_far place

-- The object that comes next is too deep, and maybe one too many, too. Of these two at one place the second comes first.
abbrev pub too_nested : Construction → Place → Construction
too_nested so_far place = too_deep (counted so_far place) place

-- ---- fields

abbrev pub field_added : MadeObject → FieldValue → MadeObject
field_added object field =
    record { name = object.name; entry = object.entry; class = object.class; fields = object.fields ++ field ∷ [] }

-- the object of this number has the field as well
abbrev pub with_field : List MadeObject → ℕ → FieldValue → List MadeObject
with_field objects number field =
    option_map_or (λ object. slice_set objects number (field_added object field)) (slice_get objects number) objects

-- the object that is being made: its name, the place of the name behind the `new` that makes it, and its number
pub record Subject : Type 0 where
  pub name : List ℕ
  pub place : Place
  pub number : ℕ

abbrev pub subject_of : subject_code.Subject → Subject
subject_of subject = record { name = subject.name.now; place = subject.place; number = subject.number }

abbrev pub with_set : Construction → Subject → List ℕ → Option Datum → Construction
with_set so_far subject name datum =
    with_objects so_far (with_field so_far.objects subject.number (record { name = name; value = datum }))
