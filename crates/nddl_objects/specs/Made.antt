-- What a `new` makes: the object, and those that its constructors make in turn.
use Rattle.std.specs.Prelude.{ℕ, zero, suc, ◌==◌, Bool, ◌&&◌, nat_lt, List, [], ◌∷◌, Option, Some, None}
use Rattle.std.specs.Prelude.{length, slice_get, codes, if◌then◌else◌}
use Rattle.std.specs.Option.{option_map_or}
use Rattle.nddl_ast.specs.declared.declaration.Member.{Member}
use Rattle.nddl_ast.specs.declared.declaration.Set.{Set}
use Rattle.nddl_ast.specs.declared.declaration.Set.TheVariants as sets
use Rattle.nddl_ast.specs.declared.expression.Creation.{Creation}
use Rattle.nddl_ast.specs.declared.expression.Expr.{Expr}
use Rattle.nddl_ast.specs.declared.expression.Init.{Init}
use Rattle.nddl_ast.specs.declared.expression.Init.TheVariants as inits
use Rattle.nddl_ast.specs.declared.kind.TextKind.TheVariants as faults
use Rattle.nddl_symbols.specs.declared.fault.Fault.{Fault}
use Rattle.nddl_symbols.specs.declared.scope.Meaning.{Meaning}
use Rattle.nddl_symbols.specs.declared.scope.Meaning.TheVariants as meanings
use Rattle.nddl_symbols.specs.Finding.{faults_here}
use Rattle.nddl_symbols.specs.Scope.{fault_if}
use Rattle.nddl_hierarchy.specs.Facts.{Facts}
use Rattle.nddl_constructors.specs.Bodies.{field_in_line, field_kind}
use Rattle.nddl_constructors.specs.Wants.{class_wants}
use Rattle.nddl_construction.specs.declared.made.Datum.{Datum}
use Rattle.nddl_construction.specs.declared.made.Datum.TheVariants as datums
use Rattle.nddl_construction.specs.declared.made.FieldValue.{FieldValue}
use Rattle.nddl_construction.specs.declared.made.MadeObject.{MadeObject}
use Rattle.nddl_construction.specs.Reading.{all_unmade_faults, datum_at, fine_data, fine_datum, unmade_faults}
use Rattle.nddl_construction.specs.Scene.{Grounds, Scenery}
use Rattle.nddl_construction.specs.Outside.{is_outside_field}
use Rattle.nddl_construction.specs.declared.passing.Passed.{Passed}
use Rattle.nddl_construction.specs.Classes.{constructor_at, constructor_sets, line_up, made_class}
use Rattle.nddl_construction.specs.Passing.{constructor_scene, passed_down, passing_faults}
use Rattle.model_core.specs.Naming.{full_name}
use Rattle.nddl_objects.specs.Construction.{Asked, Construction, Subject, object_begun, has_room, noted, too_nested, too_many, with_set}
use Rattle.nddl_objects.specs.Finished.{finished_faults}

-- what comes of what is made so far
abbrev pub Builds : Type 0
Builds = Construction → Construction

-- what comes of an object that is asked for
abbrev pub Makes : Type 0
Makes = Asked → Builds

-- ---- fields

-- what is wrong with a value to which a constructor of the class of this number sets the field, at the `new` that makes the
-- object
abbrev pub outside_faults : Grounds → List MadeObject → Subject → ℕ → List ℕ → Option Datum → List Fault
outside_faults grounds objects subject entry name datum =
    faults_here subject.place.decl subject.place.at
    (fault_if (is_outside_field grounds objects entry name datum) faults.NotInDomain)

-- a constructor of the class of this number sets the field to this
abbrev pub field_given : Grounds → Subject → ℕ → List ℕ → Option Datum → Builds
field_given grounds subject entry name datum so_far =
    with_set (noted so_far (outside_faults grounds so_far.objects subject entry name datum)) subject name datum

-- ---- `new`

-- what is asked for by a `new` of this class
abbrev pub asked_object : Grounds → Scenery → List MadeObject → List ℕ → Option ℕ → Creation → Meaning → Asked
asked_object grounds scene objects name entry creation class =
    record {
      name = name;
      entry = entry;
      place = record { decl = scene.decl; at = creation.class.at };
      class = class;
      values = fine_data grounds scene objects (class_wants grounds.facts class) 0 creation.arguments;
    }

-- its arguments are read
abbrev pub arguments_read : Grounds → Scenery → Creation → Builds
arguments_read grounds scene creation so_far = noted so_far (all_unmade_faults grounds scene creation.arguments)

-- What comes of a `new` in all, where this comes of what is asked for: first its arguments are read, and then the object is
-- made, if there is one to make.
abbrev pub new_made : Makes → Grounds → Scenery → List ℕ → Option ℕ → Creation → Builds
new_made makes grounds scene name entry creation so_far =
    let read = arguments_read grounds scene creation so_far in
    option_map_or (λ class. makes (asked_object grounds scene read.objects name entry creation class) read)
    (made_class grounds.facts creation) read

-- the object is made, where there may be so many levels, this one among them
abbrev pub is_made : ℕ → Construction → Bool
is_made levels so_far = nat_lt 0 levels && has_room so_far

-- the object that comes next, if it is made
abbrev pub next_datum : ℕ → Construction → Option Datum
next_datum levels so_far = if is_made levels so_far then Some (datums.Object (length so_far.objects)) else None

-- what a `new` stands for: the object that it makes
abbrev pub new_datum : ℕ → Facts → Creation → Construction → Option Datum
new_datum levels facts creation so_far =
    option_map_or (λ class. next_datum levels so_far) (made_class facts creation) None

-- ---- constructors

-- what comes of a field that is set to a value
abbrev pub value_set : Grounds → Scenery → Subject → ℕ → List ℕ → Expr → Builds
value_set grounds scene subject entry name expr so_far =
    field_given grounds subject entry name
    (fine_datum grounds scene so_far.objects (field_kind (field_in_line grounds.facts entry name)) expr)
    (noted so_far (unmade_faults grounds scene expr))

-- of one that is set to an object that is made for it, where this comes of what is asked for, at so many levels
abbrev pub nested_set : Makes → ℕ → Grounds → Scenery → Subject → ℕ → List ℕ → Creation → Builds
nested_set makes levels grounds scene subject entry name creation so_far =
    field_given grounds subject entry name (new_datum levels grounds.facts creation so_far)
    (new_made makes grounds scene (full_name subject.name name) None creation so_far)

-- of one that is set to what stands behind `=`
abbrev pub init_set : Makes → ℕ → Grounds → Scenery → Subject → ℕ → List ℕ → Init → Builds
init_set makes levels grounds scene subject entry name (inits.Expr expr) so_far =
    value_set grounds scene subject entry name expr so_far
init_set makes levels grounds scene subject entry name (inits.New creation) so_far =
    nested_set makes levels grounds scene subject entry name creation so_far

-- the same, of a part of a constructor's body; `super` has run by then
abbrev pub part_run : Makes → ℕ → Grounds → Scenery → Subject → ℕ → Set → Builds
part_run makes levels grounds scene subject entry (sets.Field name value) so_far =
    init_set makes levels grounds scene subject entry name.text value so_far
part_run makes levels grounds scene subject entry (sets.Super at arguments) so_far = so_far

-- of its parts one after another
abbrev pub parts_run : Makes → ℕ → Grounds → Scenery → Subject → ℕ → List Set → Builds
parts_run makes levels grounds scene subject entry [] so_far = so_far
parts_run makes levels grounds scene subject entry (set ∷ more) so_far =
    parts_run makes levels grounds scene subject entry more (part_run makes levels grounds scene subject entry set so_far)

-- of the constructor of the class of this number, which is passed these values
abbrev pub body_run : Makes → ℕ → Grounds → Subject → ℕ → List (Option Datum) → Member → Builds
body_run makes levels grounds subject entry values constructor so_far =
    parts_run makes levels grounds (constructor_scene grounds.facts entry constructor values) subject entry
    (constructor_sets constructor)
    (noted so_far (passing_faults grounds so_far.objects subject.place entry values constructor))

-- a field of a built-in class is set to the value of this number
abbrev pub number_set : Subject → List ℕ → List (Option Datum) → ℕ → Builds
number_set subject name values number so_far = with_set so_far subject name (datum_at values number)

-- the constructor of a built-in class sets its fields in their order
abbrev pub builtin_run : Subject → ℕ → List (Option Datum) → Builds
builtin_run subject number values so_far =
    if number == 2 then number_set subject (codes "capacity") values 0 so_far
    else (if number == 3
    then number_set subject (codes "high") values 2
    (number_set subject (codes "low") values 1 (number_set subject (codes "initial") values 0 so_far))
    else so_far)

-- of the constructor of a class, if it has one
abbrev pub class_run : Makes → ℕ → Grounds → Subject → Meaning → List (Option Datum) → Builds
class_run makes levels grounds subject (meanings.BuiltIn number) values so_far = builtin_run subject number values so_far
class_run makes levels grounds subject (meanings.Entry entry) values so_far =
    option_map_or (λ constructor. body_run makes levels grounds subject entry values constructor so_far)
    (constructor_at grounds.facts.names grounds.facts.program entry) so_far

-- of those of these classes, one after another
abbrev pub classes_run : Makes → ℕ → Grounds → Subject → List Passed → Builds
classes_run makes levels grounds subject [] so_far = so_far
classes_run makes levels grounds subject (passed ∷ more) so_far =
    classes_run makes levels grounds subject more
    (class_run makes levels grounds subject passed.class passed.values so_far)

-- ---- objects

-- the fields to which the object of this number is set
abbrev pub fields_of : List MadeObject → ℕ → List FieldValue
fields_of objects number = option_map_or (λ object. object.fields) (slice_get objects number) []

-- what is wrong with the fields of the object is noted
abbrev pub finished : Facts → Subject → Meaning → Builds
finished facts subject class so_far =
    noted so_far (finished_faults facts subject.place (line_up facts class) (fields_of so_far.objects subject.number))

-- The object is there, then the constructors of its classes run, the topmost first, and then its fields are looked at.
abbrev pub object_run : Makes → ℕ → Grounds → Subject → Asked → Builds
object_run makes levels grounds subject asked so_far =
    finished grounds.facts subject asked.class
    (classes_run makes levels grounds subject (passed_down grounds so_far.objects asked.class asked.values) so_far)

abbrev pub object_made : Makes → ℕ → Grounds → Asked → Builds
object_made makes levels grounds asked so_far =
    object_run makes levels grounds
    (record { name = asked.name; place = asked.place; number = length so_far.objects }) asked (object_begun so_far asked)

-- What comes of an object that is asked for, where there may be so many levels, this one among them. It takes its number
-- when it is object_begun, behind all that are made before and before all that its constructors make.
unfoldable pub made_by : ℕ → Grounds → Makes
made_by zero grounds asked so_far = too_nested so_far asked.place
made_by (suc levels) grounds asked so_far =
    if has_room so_far then object_made (made_by levels grounds) levels grounds asked so_far
    else too_many so_far asked.place
