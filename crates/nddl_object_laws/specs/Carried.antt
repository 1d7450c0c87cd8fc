-- The `new`s that constructors carry out, and the fields that they set.
use Rattle.std.specs.Prelude.{ℕ, zero, suc, ◌+◌, ◌==◌, Bool, true, false, ◌&&◌, nat_lt, List, [], ◌∷◌, Option, None}
use Rattle.std.specs.Prelude.{length, filter, is_some, codes, if◌then◌else◌}
use Rattle.std.specs.List.{flat_map}
use Rattle.std.specs.Option.{option_map_or}
use Rattle.model_core.specs.Naming.{full_name}
use Rattle.nddl_ast.specs.declared.declaration.Member.{Member}
use Rattle.nddl_ast.specs.declared.declaration.Set.{Set}
use Rattle.nddl_ast.specs.declared.declaration.Set.TheVariants as sets
use Rattle.nddl_ast.specs.declared.expression.Creation.{Creation}
use Rattle.nddl_ast.specs.declared.expression.Init.{Init}
use Rattle.nddl_ast.specs.declared.expression.Init.TheVariants as inits
use Rattle.nddl_symbols.specs.declared.place.Place.{Place}
use Rattle.nddl_symbols.specs.declared.scope.Meaning.{Meaning}
use Rattle.nddl_symbols.specs.declared.scope.Meaning.TheVariants as meanings
use Rattle.nddl_hierarchy.specs.Facts.{Facts}
use Rattle.nddl_constructors.specs.Wants.{class_wants}
use Rattle.nddl_construction.specs.declared.made.Datum.{Datum}
use Rattle.nddl_construction.specs.declared.made.MadeObject.{MadeObject}
use Rattle.nddl_construction.specs.declared.made.NamedObject.{NamedObject}
use Rattle.nddl_construction.specs.declared.passing.Passed.{Passed}
use Rattle.nddl_construction.specs.Classes.{constructor_at, constructor_sets, made_class}
use Rattle.nddl_construction.specs.Passing.{constructor_scene, passed_down}
use Rattle.nddl_construction.specs.Reading.{datum_at, fine_data}
use Rattle.nddl_construction.specs.Scene.{Grounds, Scenery}
use Rattle.nddl_objects.specs.Construction.{most_objects}

-- ---- what there is

-- What there is where the turn of a declaration comes: the objects that the declarations before it make, what the names of the
-- files stand for by then, and the settings of a search, if they have been read. All values that are read in its turn are
-- read of these, since an object can be named from the end of its declaration on.
pub record There : Type 0 where
  pub objects : List MadeObject
  pub named_objects : List NamedObject
  pub settings : List (Option Datum)

abbrev pub grounds_there : Facts → There → Grounds
grounds_there facts there = record { facts = facts; named_objects = there.named_objects }

-- A `new`: where it is written, the name of the object that it makes, with the number of this name in the scope if it is
-- declared there, and the `new` itself.
pub record New : Type 0 where
  pub scene : Scenery
  pub name : List ℕ
  pub entry : Option ℕ
  pub creation : Creation

-- the place of the name behind it
abbrev pub new_place : New → Place
new_place new = record { decl = new.scene.decl; at = new.creation.class.at }

-- the class of which it makes an object, if it is there and takes so many arguments
abbrev pub new_class : Facts → New → Option Meaning
new_class facts new = made_class facts new.creation

-- what its arguments stand for, where an object of this class is made
abbrev pub new_values : Facts → There → New → Meaning → List (Option Datum)
new_values facts there new class =
    fine_data (grounds_there facts there) new.scene there.objects (class_wants facts class) 0 new.creation.arguments

-- the classes whose constructors run for it, with what each is passed, the topmost first
abbrev pub new_passed : Facts → There → New → Meaning → List Passed
new_passed facts there new class =
    passed_down (grounds_there facts there) there.objects class (new_values facts there new class)

-- ---- fields that are set

-- A field that a constructor sets: that of a built-in class to what it is passed, and that of the class of this number, in
-- this scene, to what stands behind `=`.
pub data Assignment : Type 0 where
  Passes : List ℕ → Option Datum → Assignment
  Sets : ℕ → Scenery → List ℕ → Init → Assignment

-- what the constructor of the built-in class of this number sets
abbrev pub builtin_assignments : ℕ → List (Option Datum) → List Assignment
builtin_assignments number values =
    if number == 2 then Passes (codes "capacity") (datum_at values 0) ∷ []
    else (if number == 3
    then Passes (codes "initial") (datum_at values 0)
    ∷ (Passes (codes "low") (datum_at values 1) ∷ (Passes (codes "high") (datum_at values 2) ∷ []))
    else [])

abbrev pub part_assignments : ℕ → Scenery → Set → List Assignment
part_assignments entry scene (sets.Field name value) = Sets entry scene name.text value ∷ []
part_assignments entry scene (sets.Super at arguments) = []

-- what the constructor of the class of this number sets, where it is passed these values
abbrev pub body_assignments : Facts → ℕ → List (Option Datum) → Member → List Assignment
body_assignments facts entry values constructor =
    flat_map (part_assignments entry (constructor_scene facts entry constructor values)) (constructor_sets constructor)

abbrev pub class_assignments : Facts → Meaning → List (Option Datum) → List Assignment
class_assignments facts (meanings.BuiltIn number) values = builtin_assignments number values
class_assignments facts (meanings.Entry entry) values =
    option_map_or (body_assignments facts entry values) (constructor_at facts.names facts.program entry) []

-- what the constructors of these classes set, one after another
abbrev pub all_assignments : Facts → List Passed → List Assignment
all_assignments facts some = flat_map (λ passed. class_assignments facts passed.class passed.values) some

-- ---- `new`s that are carried out

-- A `new` that is carried out: what there is in the turn of its declaration; how many levels of objects there may be from it
-- on, and so none if it is too deep; and how many objects are made before it.
pub record Carried : Type 0 where
  pub there : There
  pub levels : ℕ
  pub number : ℕ
  pub new : New

-- it isn't too deep
abbrev pub has_levels : ℕ → Bool
has_levels zero = false
has_levels (suc levels) = true

-- behind so many objects there may be one more
abbrev pub has_place : ℕ → Bool
has_place number = nat_lt number most_objects

-- the `new` makes an object: it has a class, it isn't too deep, and there aren't too many before
abbrev pub makes_one : Facts → ℕ → ℕ → Creation → Bool
makes_one facts levels number creation = is_some (made_class facts creation) && (has_levels levels && has_place number)

abbrev pub is_made : Facts → Carried → Bool
is_made facts carried = makes_one facts carried.levels carried.number carried.new.creation

-- how many objects these make
abbrev pub made_count : Facts → List Carried → ℕ
made_count facts some = length (filter (is_made facts) some)

-- what is carried out for a `new` in all, where so many objects are made before it
abbrev pub Carries : Type 0
Carries = ℕ → New → List Carried

-- the same for what stands behind `=`
abbrev pub init_carried : Carries → Scenery → List ℕ → ℕ → Init → List Carried
init_carried carries scene name number (inits.Expr expr) = []
init_carried carries scene name number (inits.New creation) =
    carries number (record { scene = scene; name = name; entry = None; creation = creation })

-- the same for a field of the object of this name that is set
abbrev pub assignment_carried : Carries → List ℕ → ℕ → Assignment → List Carried
assignment_carried carries name number (Passes field datum) = []
assignment_carried carries name number (Sets entry scene field init) =
    init_carried carries scene (full_name name field) number init

-- a field that is set, behind so many objects
pub record Numbered : Type 0 where
  pub number : ℕ
  pub assignment : Assignment

-- each of these fields with how many objects are made before it: the first behind so many
abbrev pub numbered : Facts → Carries → List ℕ → ℕ → List Assignment → List Numbered
numbered facts carries name number [] = []
numbered facts carries name number (assignment ∷ more) =
    record { number = number; assignment = assignment }
    ∷ numbered facts carries name (number + made_count facts (assignment_carried carries name number assignment)) more

-- what is carried out for them
abbrev pub numbered_carried : Carries → List ℕ → List Numbered → List Carried
numbered_carried carries name some = flat_map (λ step. assignment_carried carries name step.number step.assignment) some

-- the fields of the object of this class that a `new` makes, behind the object itself
abbrev pub object_steps : Facts → There → Carries → ℕ → New → Meaning → List Numbered
object_steps facts there carries number new class =
    numbered facts carries new.name (number + 1) (all_assignments facts (new_passed facts there new class))

-- the same of what it makes, if it makes anything
abbrev pub new_steps : Facts → There → Carries → ℕ → New → List Numbered
new_steps facts there carries number new =
    option_map_or (λ class. if has_place number then object_steps facts there carries number new class else [])
    (new_class facts new) []

-- The `new`s that are carried out for one, in their order, where there may be so many levels and so many objects are made
-- before it: first it itself, and then, for each field that the constructors of its object set to a `new`, those for that
-- one. For an object that isn't made no constructor runs.
unfoldable pub carried_by : ℕ → Facts → There → Carries
carried_by zero facts there number new =
    record { there = there; levels = zero; number = number; new = new } ∷ []
carried_by (suc levels) facts there number new =
    record { there = there; levels = suc levels; number = number; new = new }
    ∷ numbered_carried (carried_by levels facts there) new.name
    (new_steps facts there (carried_by levels facts there) number new)
