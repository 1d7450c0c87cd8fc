-- Objects as a model has them.
use Rattle.std.specs.Prelude.{ℕ, ◌==◌, ℤ, pos, List, [], Option, Some, None, map, slice_get, codes, if◌then◌else◌}
use Rattle.std.specs.Option.{option_map_or}
use Rattle.model_core.specs.declared.class.Class.{Class}
use Rattle.model_core.specs.declared.class.Object.{Object}
use Rattle.model_core.specs.declared.class.ObjectKind.{ObjectKind}
use Rattle.model_core.specs.declared.class.ObjectKind.TheVariants as object_kinds
use Rattle.model_core.specs.declared.variable.VarDecl.{VarDecl}
use Rattle.nddl_symbols.specs.declared.declared.Declared.{Declared}
use Rattle.nddl_symbols.specs.declared.declared.Sort.{Sort}
use Rattle.nddl_symbols.specs.declared.declared.Sort.TheVariants as sorts
use Rattle.nddl_symbols.specs.declared.scope.Meaning.{Meaning}
use Rattle.nddl_symbols.specs.declared.scope.Meaning.TheVariants as meanings
use Rattle.eu_forest.specs.Ancestors.{ancestry}
use Rattle.nddl_hierarchy.specs.Facts.{Facts}
use Rattle.nddl_types.specs.Classes.{class_number}
use Rattle.nddl_constructors.specs.Wants.{builtin_along}
use Rattle.nddl_construction.specs.declared.made.Datum.{Datum}
use Rattle.nddl_construction.specs.declared.made.Datum.TheVariants as datums
use Rattle.nddl_construction.specs.declared.made.FieldValue.{FieldValue}
use Rattle.nddl_construction.specs.declared.made.MadeObject.{MadeObject}
use Rattle.nddl_construction.specs.Fields.{field_datum}

-- ---- values

-- a member is its place in its enum
abbrev pub member_value : Sort → ℤ
member_value (sorts.Member of place) = pos place
member_value sort = pos 0

-- the number that a value has in a model; nothing has 0
abbrev pub datum_value : List Declared → Option Datum → ℤ
datum_value names None = pos 0
datum_value names (Some (datums.Number number)) = number
datum_value names (Some (datums.Decimal thousandths)) = thousandths
datum_value names (Some (datums.Truth truth)) = if truth then pos 1 else pos 0
datum_value names (Some (datums.Member entry)) = option_map_or (λ declared. member_value declared.sort) (slice_get names entry) (pos 0)
datum_value names (Some (datums.Object number)) = pos number

-- that of the value to which the field of this name is set
abbrev pub field_value : List Declared → List FieldValue → List ℕ → ℤ
field_value names fields name = datum_value names (field_datum name fields)

-- those of the fields of a class, in their order
abbrev pub field_values : List Declared → List FieldValue → List VarDecl → List ℤ
field_values names fields variables = map (λ variable. field_value names fields variable.name) variables

-- ---- objects

-- the built-in class of an object of this class
abbrev pub builtin_of : Facts → Meaning → ℕ
builtin_of facts (meanings.BuiltIn number) = number
builtin_of facts (meanings.Entry entry) = builtin_along facts.names facts.program (ancestry facts.parents entry)

-- what it means for the tokens on it
abbrev pub object_kind : List Declared → List FieldValue → ℕ → ObjectKind
object_kind names fields number =
    if number == 1 then object_kinds.Timeline
    else (if number == 2 then object_kinds.Reusable (field_value names fields (codes "capacity"))
    else (if number == 3
    then object_kinds.Reservoir (field_value names fields (codes "initial")) (field_value names fields (codes "low"))
    (field_value names fields (codes "high"))
    else object_kinds.Plain))

-- the fields of the class of this number
abbrev pub fields_of_class : List Class → ℕ → List VarDecl
fields_of_class classes number = option_map_or (λ class. class.fields) (slice_get classes number) []

-- an object as the model has it, of which these are the classes
abbrev pub modelled_object : Facts → List Class → MadeObject → Object
modelled_object facts classes object =
    let number = class_number facts.names object.class in
    record {
      name = object.name;
      class = number;
      fields = field_values facts.names object.fields (fields_of_class classes number);
      kind = object_kind facts.names object.fields (builtin_of facts object.class);
    }

-- all of them, in order of making
abbrev pub modelled_objects : Facts → List Class → List MadeObject → List Object
modelled_objects facts classes objects = map (modelled_object facts classes) objects
