-- Which constructors run where an object is made, and which values each of them is passed.
use Rattle.std.specs.Prelude.{ℕ, ◌+◌, ◌==◌, Bool, true, false, ◌||◌, List, [], ◌∷◌, ◌++◌, Option, Some, None, map, length}
use Rattle.std.specs.Prelude.{if◌then◌else◌, is_none, reverse}
use Rattle.std.specs.List.{list_any}
use Rattle.std.specs.Option.{option_and_then, option_map_or}
use Rattle.nddl_ast.specs.declared.declaration.Member.{Member}
use Rattle.nddl_ast.specs.declared.declaration.Set.{Set}
use Rattle.nddl_ast.specs.declared.declaration.Set.TheVariants as sets
use Rattle.nddl_ast.specs.declared.declaration.Typed.{Typed}
use Rattle.nddl_ast.specs.declared.expression.Expr.{Expr}
use Rattle.nddl_ast.specs.declared.kind.TextKind.TheVariants as faults
use Rattle.nddl_symbols.specs.declared.place.Place.{Place}
use Rattle.nddl_symbols.specs.declared.fault.Fault.{Fault}
use Rattle.nddl_symbols.specs.declared.scope.Meaning.{Meaning}
use Rattle.nddl_symbols.specs.declared.scope.Meaning.TheVariants as meanings
use Rattle.nddl_symbols.specs.Finding.{faults_here}
use Rattle.nddl_symbols.specs.Scope.{fault_if}
use Rattle.nddl_typeexpr.specs.declared.kind.TypeKind.{TypeKind}
use Rattle.nddl_hierarchy.specs.Ancestors.{above}
use Rattle.nddl_hierarchy.specs.Facts.{Facts}
use Rattle.nddl_constructors.specs.Creations.{meaning_wants}
use Rattle.nddl_constructors.specs.Formals.{formal_seen}
use Rattle.nddl_constructors.specs.Wants.{formal_kind}
use Rattle.nddl_construction.specs.declared.made.Datum.{Datum}
use Rattle.nddl_construction.specs.declared.made.MadeObject.{MadeObject}
use Rattle.nddl_construction.specs.Fitting.{is_foreign_datum}
use Rattle.nddl_construction.specs.Reading.{all_unmade_faults, datum_at, fine_data}
use Rattle.nddl_construction.specs.Scene.{Grounds, Scenery}
use Rattle.nddl_construction.specs.declared.passing.Passed.{Passed}
use Rattle.nddl_construction.specs.Classes.{body_decl, constructor_at, constructor_formals, constructor_sets, is_building, line_up}

-- ---- what a body says of `super`

abbrev pub is_super : Set → Bool
is_super (sets.Super at arguments) = true
is_super set = false

abbrev pub has_super : List Set → Bool
has_super body = list_any is_super body

-- there is one behind the first part of the body
abbrev pub has_late_super : List Set → Bool
has_late_super [] = false
has_late_super (set ∷ more) = has_super more

-- what follows the first part of the body, where this part isn't `super`: nothing is handed up if there is none at all
abbrev pub silent_arguments : List Set → Option (List Expr)
silent_arguments body = if has_super body then None else Some []

-- The arguments that a body hands to what the class extends: those of `super` at its front, and none where there is no
-- `super`. If it stands further behind, there is nothing that can be handed.
abbrev pub super_arguments : List Set → Option (List Expr)
super_arguments [] = Some []
super_arguments (sets.Super at arguments ∷ more) = Some arguments
super_arguments (sets.Field name value ∷ more) = silent_arguments more

-- they are handed if they are as many as are wanted
abbrev pub fitting_arguments : ℕ → List Expr → Option (List Expr)
fitting_arguments count arguments = if count == length arguments then Some arguments else None

abbrev pub handed_arguments : ℕ → List Set → Option (List Expr)
handed_arguments count body = option_and_then (fitting_arguments count) (super_arguments body)

-- `super` isn't as it should be
abbrev pub is_wrong_super : List (Option TypeKind) → List Set → Bool
is_wrong_super wants body = is_none (handed_arguments (length wants) body) || has_late_super body

-- ---- values

-- what stands around in a constructor of the class of this number that is passed these values
abbrev pub constructor_scene : Facts → ℕ → Member → List (Option Datum) → Scenery
constructor_scene facts entry constructor values =
    record {
      decl = body_decl facts.names entry;
      formals = map (formal_seen facts) (constructor_formals constructor);
      values = values;
    }

-- the kinds of arguments that what the class of this number extends wants
abbrev pub wants_above : Facts → ℕ → List (Option TypeKind)
wants_above facts entry = meaning_wants facts (above facts.names facts.program entry)

-- what those arguments stand for
abbrev pub handed_data : Grounds → Scenery → List MadeObject → List (Option TypeKind) → List Set → Option (List (Option Datum))
handed_data grounds scene objects wants body =
    option_map_or (λ arguments. Some (fine_data grounds scene objects wants 0 arguments))
    (handed_arguments (length wants) body) None

-- the values that the constructor of the class of this number passes on, where it is passed these
abbrev pub super_data : Grounds → List MadeObject → ℕ → List (Option Datum) → Member → Option (List (Option Datum))
super_data grounds objects entry values constructor =
    handed_data grounds (constructor_scene grounds.facts entry constructor values) objects (wants_above grounds.facts entry)
    (constructor_sets constructor)

-- What is passed to what the class extends, where it is passed these values: a class without a constructor passes them on.
abbrev pub data_above : Grounds → List MadeObject → List (Option Datum) → Meaning → Option (List (Option Datum))
data_above grounds objects values (meanings.BuiltIn number) = None
data_above grounds objects values (meanings.Entry entry) =
    option_map_or (super_data grounds objects entry values)
    (constructor_at grounds.facts.names grounds.facts.program entry) (Some values)

abbrev pub passed_above : Grounds → List MadeObject → Meaning → Option (List (Option Datum)) → Option (List (Option Datum))
passed_above grounds objects class None = None
passed_above grounds objects class (Some values) = data_above grounds objects values class

-- A class of a line with what it is passed, if it has a constructor and is passed anything. One without a constructor hands
-- on what it is passed, and nothing of it runs.
abbrev pub passed_here : Facts → Meaning → Option (List (Option Datum)) → List Passed
passed_here facts class None = []
passed_here facts class (Some values) =
    if is_building facts class then record { class = class; values = values } ∷ [] else []

abbrev pub passed_from : Grounds → List MadeObject → List Meaning → Option (List (Option Datum)) → List Passed
passed_from grounds objects [] values = []
passed_from grounds objects (class ∷ more) values =
    passed_here grounds.facts class values ++ passed_from grounds objects more (passed_above grounds objects class values)

-- The classes of an object of this class whose constructors run, with what each is passed, where these are the arguments; the
-- topmost first, as they run. A class without a constructor isn't among them.
unfoldable pub passed_down : Grounds → List MadeObject → Meaning → List (Option Datum) → List Passed
passed_down grounds objects class values =
    reverse (passed_from grounds objects (line_up grounds.facts class) (Some values))

-- ---- what is wrong with it

-- a formal of a class is passed an object of another one
abbrev pub is_foreign_formal : Grounds → List MadeObject → List (Option Datum) → ℕ → Typed → Bool
is_foreign_formal grounds objects values number typed =
    is_foreign_datum grounds objects (formal_kind grounds.facts typed) (datum_at values number)

abbrev pub has_foreign_from : Grounds → List MadeObject → List (Option Datum) → ℕ → List Typed → Bool
has_foreign_from grounds objects values number [] = false
has_foreign_from grounds objects values number (typed ∷ more) =
    is_foreign_formal grounds objects values number typed || has_foreign_from grounds objects values (number + 1) more

-- what is wrong where the arguments of `super` are read
abbrev pub read_faults : Grounds → Scenery → Option (List Expr) → List Fault
read_faults grounds scene None = []
read_faults grounds scene (Some arguments) = all_unmade_faults grounds scene arguments

-- All that is wrong with what a constructor of the class of this number is passed, and with what it hands on. The object is
-- made by the `new` before the name at this place.
abbrev pub passing_faults : Grounds → List MadeObject → Place → ℕ → List (Option Datum) → Member → List Fault
passing_faults grounds objects place entry values constructor =
    faults_here place.decl place.at
    (fault_if (has_foreign_from grounds objects values 0 (constructor_formals constructor)) faults.NotInDomain)
    ++ (faults_here place.decl place.at
    (fault_if (is_wrong_super (wants_above grounds.facts entry) (constructor_sets constructor)) faults.WrongCount)
    ++ read_faults grounds (constructor_scene grounds.facts entry constructor values)
    (super_arguments (constructor_sets constructor)))
