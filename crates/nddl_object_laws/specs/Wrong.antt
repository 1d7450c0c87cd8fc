-- What is wrong with what is made.
use Rattle.std.specs.Prelude.{ℕ, zero, suc, ◌+◌, Bool, ◌&&◌, not, List, [], ◌∷◌, ◌++◌, Option, is_some}
use Rattle.std.specs.Prelude.{if◌then◌else◌}
use Rattle.std.specs.List.{flat_map}
use Rattle.std.specs.Option.{option_map_or}
use Rattle.nddl_ast.specs.declared.declaration.Decl.{Decl}
use Rattle.nddl_ast.specs.declared.expression.Init.{Init}
use Rattle.nddl_ast.specs.declared.expression.Init.TheVariants as inits
use Rattle.nddl_ast.specs.declared.kind.TextKind.{TextKind}
use Rattle.nddl_ast.specs.declared.kind.TextKind.TheVariants as faults
use Rattle.nddl_symbols.specs.declared.fault.Fault.{Fault}
use Rattle.nddl_symbols.specs.declared.place.Place.{Place}
use Rattle.nddl_symbols.specs.declared.scope.Meaning.{Meaning}
use Rattle.nddl_symbols.specs.declared.scope.Meaning.TheVariants as meanings
use Rattle.nddl_symbols.specs.Finding.{faults_here}
use Rattle.nddl_symbols.specs.Scope.{fault_if}
use Rattle.nddl_hierarchy.specs.Facts.{Facts}
use Rattle.nddl_constructors.specs.Objects.{written_faults}
use Rattle.nddl_construction.specs.declared.made.Datum.{Datum}
use Rattle.nddl_construction.specs.declared.made.MadeObject.{MadeObject}
use Rattle.nddl_construction.specs.declared.passing.Passed.{Passed}
use Rattle.nddl_construction.specs.Classes.{constructor_at, line_up}
use Rattle.nddl_construction.specs.Outside.{is_outside_field}
use Rattle.nddl_construction.specs.Passing.{passing_faults}
use Rattle.nddl_construction.specs.Reading.{all_unmade_faults, unmade_faults}
use Rattle.nddl_construction.specs.Scene.{Grounds, Scenery}
use Rattle.nddl_objects.specs.Finished.{finished_faults}
use Rattle.nddl_objects.specs.Objects.{bare_scene}
use Rattle.nddl_objects.specs.Settings.{setting_faults_of}
use Rattle.nddl_object_laws.specs.Carried.{Assignment, Passes, Sets, Carried, New, Numbered, There, carried_by, grounds_there}
use Rattle.nddl_object_laws.specs.Carried.{has_levels, has_place, new_class, new_passed, new_place, object_steps}
use Rattle.nddl_object_laws.specs.Made.{Doing, MakesObject, HasSettings, DoesNeither, all_carried, assigned_values, doing_of}
use Rattle.nddl_object_laws.specs.Made.{init_datum, made_objects, there_after}

-- ---- one field

-- what is wrong where a value behind `=` is read; a `new` has faults of its own
abbrev pub assigned_init_faults : Grounds → Scenery → Init → List Fault
assigned_init_faults grounds scene (inits.Expr expr) = unmade_faults grounds scene expr
assigned_init_faults grounds scene (inits.New creation) = []

-- the value lies outside of the field's type, where these are all objects; it stands at the `new` of the object
abbrev pub outside_field_faults : Facts → There → List MadeObject → Place → ℕ → List ℕ → Option Datum → List Fault
outside_field_faults facts there all place entry field datum =
    faults_here place.decl place.at
    (fault_if (is_outside_field (grounds_there facts there) all entry field datum) faults.NotInDomain)

-- all that is wrong with a field that is set behind so many objects
abbrev pub assignment_faults : Facts → There → List MadeObject → Place → ℕ → ℕ → Assignment → List Fault
assignment_faults facts there all place levels number (Passes field datum) = []
assignment_faults facts there all place levels number (Sets entry scene field init) =
    assigned_init_faults (grounds_there facts there) scene init
    ++ outside_field_faults facts there all place entry field (init_datum facts there levels number entry scene field init)

abbrev pub steps_faults : Facts → There → List MadeObject → Place → ℕ → List Numbered → List Fault
steps_faults facts there all place levels some =
    flat_map (λ step. assignment_faults facts there all place levels step.number step.assignment) some

-- ---- one constructor

-- all that is wrong with what the constructor of a class is passed, and with what it hands on
abbrev pub passed_faults : Facts → There → Place → Meaning → List (Option Datum) → List Fault
passed_faults facts there place (meanings.BuiltIn number) values = []
passed_faults facts there place (meanings.Entry entry) values =
    option_map_or (passing_faults (grounds_there facts there) there.objects place entry values)
    (constructor_at facts.names facts.program entry) []

abbrev pub all_passed_faults : Facts → There → Place → List Passed → List Fault
all_passed_faults facts there place some =
    flat_map (λ passed. passed_faults facts there place passed.class passed.values) some

-- ---- one `new`

-- All that is wrong with the object of this class that a `new` makes: with what its constructors are passed and hand on, with
-- each field that they set, and with the fields that they have set in the end.
abbrev pub new_object_faults : Facts → There → List MadeObject → ℕ → ℕ → New → Meaning → List Fault
new_object_faults facts there all levels number new class =
    let steps = object_steps facts there (carried_by levels facts there) number new class in
    all_passed_faults facts there (new_place new) (new_passed facts there new class)
    ++ (steps_faults facts there all (new_place new) levels steps
    ++ finished_faults facts (new_place new) (line_up facts class) (assigned_values facts there levels steps))

-- the same, if it makes one
abbrev pub made_object_faults : Facts → There → List MadeObject → ℕ → ℕ → New → List Fault
made_object_faults facts there all zero number new = []
made_object_faults facts there all (suc levels) number new =
    option_map_or (λ class. if has_place number then new_object_faults facts there all levels number new class else [])
    (new_class facts new) []

-- all that is wrong with a `new` that is carried out, where these are all objects: with what its arguments name, and with the
-- object that it makes
abbrev pub carried_faults : Facts → List MadeObject → Carried → List Fault
carried_faults facts all carried =
    all_unmade_faults (grounds_there facts carried.there) carried.new.scene carried.new.creation.arguments
    ++ made_object_faults facts carried.there all carried.levels carried.number carried.new

-- ---- limits

-- its object would be one too many
abbrev pub is_too_many : Facts → Carried → Bool
is_too_many facts carried = is_some (new_class facts carried.new) && not (has_place carried.number)

-- its object would be too deep
abbrev pub is_too_deep : Facts → Carried → Bool
is_too_deep facts carried = is_some (new_class facts carried.new) && not (has_levels carried.levels)

-- a fault of this kind at the first of these that passes the test
abbrev pub first_passing : (Carried → Bool) → TextKind → List Carried → List Fault
first_passing test kind [] = []
first_passing test kind (carried ∷ more) =
    if test carried then record { place = new_place carried.new; kind = kind } ∷ [] else first_passing test kind more

-- each of the two limits has one fault, at the `new` that passes it first
abbrev pub met_limit_faults : Facts → List Carried → List Fault
met_limit_faults facts some =
    first_passing (is_too_many facts) faults.LimitObjects some ++ first_passing (is_too_deep facts) faults.LimitNew some

-- ---- the program

-- All that is wrong with making the objects of a program: with each `new` that is carried out, and the two limits.
abbrev pub met_faults : Facts → List Fault
met_faults facts =
    flat_map (carried_faults facts (made_objects facts)) (all_carried facts) ++ met_limit_faults facts (all_carried facts)

-- what is wrong with what the settings of a search stand for, if a declaration has them
abbrev pub doing_faults : Facts → There → ℕ → Doing → List Fault
doing_faults facts there decl (MakesObject variable creation) = []
doing_faults facts there decl (HasSettings creation) =
    setting_faults_of (grounds_there facts there) (bare_scene decl) there.objects creation
doing_faults facts there decl DoesNeither = []

abbrev pub doing_faults_from : Facts → ℕ → List Decl → List Fault
doing_faults_from facts number [] = []
doing_faults_from facts number (decl ∷ more) =
    doing_faults facts (there_after facts number) number (doing_of decl) ++ doing_faults_from facts (number + 1) more

-- All else that is wrong with how objects are made: with the text, whether it is run or not, and with the settings.
abbrev pub text_faults : Facts → List Fault
text_faults facts = written_faults facts ++ doing_faults_from facts 0 facts.program
