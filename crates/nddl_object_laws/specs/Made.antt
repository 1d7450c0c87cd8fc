-- What is made.
use Rattle.std.specs.Prelude.{ℕ, zero, suc, ◌+◌, false, List, [], ◌∷◌, ◌++◌, Option, Some, None, map, length, slice_get}
use Rattle.std.specs.Prelude.{option_and_then, filter_map, if◌then◌else◌}
use Rattle.std.specs.Option.{option_map_or}
use Rattle.nddl_ast.specs.declared.declaration.Decl.{Decl}
use Rattle.nddl_ast.specs.declared.declaration.Decl.TheVariants as decls
use Rattle.nddl_ast.specs.declared.expression.Creation.{Creation}
use Rattle.nddl_ast.specs.declared.expression.Init.{Init}
use Rattle.nddl_ast.specs.declared.expression.Init.TheVariants as inits
use Rattle.nddl_ast.specs.declared.statement.Variable.{Variable}
use Rattle.nddl_symbols.specs.declared.scope.Meaning.{Meaning}
use Rattle.nddl_symbols.specs.Names.{is_config_sort, sort_of_variable}
use Rattle.nddl_symbols.specs.Scope.{named_number}
use Rattle.nddl_hierarchy.specs.Facts.{Facts}
use Rattle.nddl_constructors.specs.Bodies.{field_in_line, field_kind}
use Rattle.nddl_construction.specs.declared.made.Datum.{Datum}
use Rattle.nddl_construction.specs.declared.made.Datum.TheVariants as datums
use Rattle.nddl_construction.specs.declared.made.FieldValue.{FieldValue}
use Rattle.nddl_construction.specs.declared.made.MadeObject.{MadeObject}
use Rattle.nddl_construction.specs.declared.made.NamedObject.TheVariants as named
use Rattle.nddl_construction.specs.Reading.{fine_datum}
use Rattle.nddl_construction.specs.Scene.{Scenery}
use Rattle.nddl_objects.specs.Objects.{bare_scene, most_levels, with_named}
use Rattle.nddl_objects.specs.Settings.{setting_data}
use Rattle.nddl_object_laws.specs.Carried.{Assignment, Passes, Sets, Carried, New, Numbered, There, carried_by, grounds_there}
use Rattle.nddl_object_laws.specs.Carried.{has_place, makes_one, new_class, object_steps}

-- ---- values of fields

-- what a `new` stands for behind so many objects: the object that it makes, if it makes one
abbrev pub made_datum : Facts → ℕ → ℕ → Creation → Option Datum
made_datum facts levels number creation =
    if makes_one facts levels number creation then Some (datums.Object number) else None

-- what a field is set to by a constructor of the class of this number: what stands behind `=`, where an object that is made
-- for it may have so many levels, itself among them, and comes behind so many
abbrev pub init_datum : Facts → There → ℕ → ℕ → ℕ → Scenery → List ℕ → Init → Option Datum
init_datum facts there levels number entry scene field (inits.Expr expr) =
    fine_datum (grounds_there facts there) scene there.objects (field_kind (field_in_line facts entry field)) expr
init_datum facts there levels number entry scene field (inits.New creation) = made_datum facts levels number creation

abbrev pub assigned_value : Facts → There → ℕ → ℕ → Assignment → FieldValue
assigned_value facts there levels number (Passes field datum) = record { name = field; value = datum }
assigned_value facts there levels number (Sets entry scene field init) =
    record { name = field; value = init_datum facts there levels number entry scene field init }

-- the fields with their values, in the order in which they are set
abbrev pub assigned_values : Facts → There → ℕ → List Numbered → List FieldValue
assigned_values facts there levels some = map (λ step. assigned_value facts there levels step.number step.assignment) some

-- ---- objects

abbrev pub new_object_with : New → Meaning → List FieldValue → MadeObject
new_object_with new class fields = record { name = new.name; entry = new.entry; class = class; fields = fields }

-- the object of a `new` that may have so many levels, itself among them, behind so many objects, if it makes one
abbrev pub new_object : Facts → There → ℕ → ℕ → New → Option MadeObject
new_object facts there zero number new = None
new_object facts there (suc levels) number new =
    option_and_then (λ class. if has_place number
    then Some (new_object_with new class (assigned_values facts there levels
    (object_steps facts there (carried_by levels facts there) number new class)))
    else None) (new_class facts new)

abbrev pub carried_object : Facts → Carried → Option MadeObject
carried_object facts carried = new_object facts carried.there carried.levels carried.number carried.new

-- those that are made where these `new`s are carried out
abbrev pub carried_objects : Facts → List Carried → List MadeObject
carried_objects facts some = filter_map (carried_object facts) some

-- ---- declarations

-- what a declaration does where objects are made: it makes one by this `new`, it has the settings of a search, or neither
pub data Doing : Type 0 where
  MakesObject : Variable → Creation → Doing
  HasSettings : Creation → Doing
  DoesNeither : Doing

abbrev pub init_doing : Variable → Option Init → Doing
init_doing variable (Some (inits.New creation)) =
    if is_config_sort (sort_of_variable variable) then HasSettings creation else MakesObject variable creation
init_doing variable init = DoesNeither

abbrev pub doing_of : Decl → Doing
doing_of (decls.Variable variable) = init_doing variable variable.init
doing_of other = DoesNeither

-- the `new` of the declaration of this number
abbrev pub declared_new : Facts → ℕ → Variable → Creation → New
declared_new facts decl variable creation = record {
  scene = bare_scene decl;
  name = variable.name.text;
  entry = named_number false facts.names variable.name.text;
  creation = creation;
}

-- the `new`s that the declaration of this number carries out, which does this, where this is there
abbrev pub doing_carried : Facts → There → ℕ → Doing → List Carried
doing_carried facts there decl (MakesObject variable creation) =
    carried_by most_levels facts there (length there.objects) (declared_new facts decl variable creation)
doing_carried facts there decl (HasSettings creation) = []
doing_carried facts there decl DoesNeither = []

-- what is there behind it: the objects that it makes, of which its name stands for the first, or the settings
abbrev pub there_behind : Facts → There → ℕ → Doing → There
there_behind facts there decl (MakesObject variable creation) = record {
  objects = there.objects ++ carried_objects facts (doing_carried facts there decl (MakesObject variable creation));
  named_objects = with_named there.named_objects (named_number false facts.names variable.name.text)
      (made_datum facts most_levels (length there.objects) creation);
  settings = there.settings;
}
there_behind facts there decl (HasSettings creation) = record {
  objects = there.objects;
  named_objects = there.named_objects;
  settings = setting_data (grounds_there facts there) (bare_scene decl) there.objects creation;
}
there_behind facts there decl DoesNeither = there

-- what is there before all declarations
abbrev pub nothing_there : Facts → There
nothing_there facts = record { objects = []; named_objects = map (λ name. named.Unmade) facts.names; settings = [] }

-- What is there behind so many declarations, and so in the turn of the one of this number.
unfoldable pub there_after : Facts → ℕ → There
there_after facts zero = nothing_there facts
there_after facts (suc number) =
    option_map_or (λ decl. there_behind facts (there_after facts number) number (doing_of decl))
    (slice_get facts.program number) (there_after facts number)

-- ---- the program

-- what declarations carry out, of which the first has this number
abbrev pub carried_from : Facts → ℕ → List Decl → List Carried
carried_from facts number [] = []
carried_from facts number (decl ∷ more) =
    doing_carried facts (there_after facts number) number (doing_of decl) ++ carried_from facts (number + 1) more

-- All `new`s that a program carries out, in their order.
unfoldable pub all_carried : Facts → List Carried
all_carried facts = carried_from facts 0 facts.program

-- What is made: the objects of these, one for each that makes one.
abbrev pub made_objects : Facts → List MadeObject
made_objects facts = carried_objects facts (all_carried facts)
