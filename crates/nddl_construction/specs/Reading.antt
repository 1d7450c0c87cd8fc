-- What values stand for, where these objects are made so far.
use Rattle.std.specs.Prelude.{ℕ, ◌+◌, Bool, true, false, List, [], ◌∷◌, Option, Some, None, is_some, slice_get}
use Rattle.std.specs.Prelude.{if◌then◌else◌}
use Rattle.std.specs.List.{flat_map}
use Rattle.std.specs.Option.{option_and_then, option_map, option_map_or}
use Rattle.nddl_ast.specs.declared.expression.Constant.{Constant}
use Rattle.nddl_ast.specs.declared.expression.Constant.TheVariants as constants
use Rattle.nddl_ast.specs.declared.expression.Expr.{Expr}
use Rattle.nddl_ast.specs.declared.expression.Expr.TheVariants as exprs
use Rattle.nddl_ast.specs.declared.kind.TextKind.TheVariants as faults
use Rattle.nddl_ast.specs.declared.name.Name.{Name}
use Rattle.nddl_ast.specs.declared.name.Path.{Path}
use Rattle.nddl_ast.specs.Decimals.{constant_decimal}
use Rattle.nddl_ast.specs.Places.{expr_place}
use Rattle.nddl_symbols.specs.declared.declared.Sort.{Sort}
use Rattle.nddl_symbols.specs.declared.declared.Sort.TheVariants as sorts
use Rattle.nddl_symbols.specs.declared.fault.Fault.{Fault}
use Rattle.nddl_symbols.specs.declared.scope.Meaning.{Meaning}
use Rattle.nddl_symbols.specs.declared.scope.Meaning.TheVariants as meanings
use Rattle.nddl_symbols.specs.Finding.{faults_here}
use Rattle.nddl_symbols.specs.Scope.{fault_if, meaning_of}
use Rattle.nddl_typeexpr.specs.declared.kind.TypeKind.{TypeKind}
use Rattle.nddl_typeexpr.specs.declared.kind.TypeKind.TheVariants as kinds
use Rattle.nddl_resolve.specs.Paths.{expr_denoted}
use Rattle.nddl_constructors.specs.Constants.{is_understood}
use Rattle.nddl_constructors.specs.Wants.{wanted_at}
use Rattle.nddl_constructors.specs.Formals.{around_formals, formal_number}
use Rattle.nddl_construction.specs.declared.made.Datum.{Datum}
use Rattle.nddl_construction.specs.declared.made.Datum.TheVariants as datums
use Rattle.nddl_construction.specs.declared.made.MadeObject.{MadeObject}
use Rattle.nddl_construction.specs.declared.made.NamedObject.{NamedObject}
use Rattle.nddl_construction.specs.declared.made.NamedObject.TheVariants as named
use Rattle.nddl_construction.specs.Fields.{field_datum}
use Rattle.nddl_construction.specs.Scene.{Grounds, Scenery}

-- ---- names

-- what the name stands for, if it is that of an object which is made
abbrev pub named_datum : Option NamedObject → Option Datum
named_datum (Some (named.Made datum)) = datum
named_datum named_object = None

-- what the name of this number and sort stands for
abbrev pub sort_datum : List NamedObject → ℕ → Sort → Option Datum
sort_datum named_objects entry (sorts.Member of place) = Some (datums.Member entry)
sort_datum named_objects entry sorts.Object = named_datum (slice_get named_objects entry)
sort_datum named_objects entry sort = None

-- what the name of this number stands for
abbrev pub entry_datum : Grounds → ℕ → Option Datum
entry_datum grounds entry =
    option_and_then (λ declared. sort_datum grounds.named_objects entry declared.sort)
    (slice_get grounds.facts.names entry)

abbrev pub meaning_datum : Grounds → Option Meaning → Option Datum
meaning_datum grounds (Some (meanings.Entry entry)) = entry_datum grounds entry
meaning_datum grounds meaning = None

-- the value of this number, if there is one
abbrev pub datum_at : List (Option Datum) → ℕ → Option Datum
datum_at values number = option_and_then (λ value. value) (slice_get values number)

-- what the name stands for at the front of a path: a formal, or a name of the files
abbrev pub first_datum : Grounds → Scenery → List ℕ → Option Datum
first_datum grounds scene name =
    option_map_or (datum_at scene.values) (formal_number scene.formals name)
    (meaning_datum grounds (meaning_of grounds.facts.names name))

-- ---- paths

-- the value of the field of this name of an object
abbrev pub datum_behind : List MadeObject → Option Datum → Name → Option Datum
datum_behind objects (Some (datums.Object number)) name =
    option_and_then (λ object. field_datum name.text object.fields) (slice_get objects number)
datum_behind objects datum name = None

-- that of the last of these names, each of which is a field of what stands before it
abbrev pub data_behind : List MadeObject → Option Datum → List Name → Option Datum
data_behind objects datum [] = datum
data_behind objects datum (name ∷ more) = data_behind objects (datum_behind objects datum name) more

abbrev pub path_datum : Grounds → Scenery → List MadeObject → Path → Option Datum
path_datum grounds scene objects path = data_behind objects (first_datum grounds scene path.first.text) path.rest

-- ---- values

-- What a constant that is written out stands for, where this kind may be wanted: a number stands for a decimal where one is.
abbrev pub literal_datum : Option TypeKind → Constant → Option Datum
literal_datum (Some kinds.Float) constant = option_map datums.Decimal (constant_decimal constant)
literal_datum wanted (constants.Number number) = Some (datums.Number number)
literal_datum wanted (constants.Decimal thousandths) = Some (datums.Decimal thousandths.0)
literal_datum wanted (constants.Truth truth) = Some (datums.Truth truth)

abbrev pub expr_datum : Grounds → Scenery → List MadeObject → Option TypeKind → Expr → Option Datum
expr_datum grounds scene objects wanted (exprs.Path path) = path_datum grounds scene objects path
expr_datum grounds scene objects wanted (exprs.Literal literal) = literal_datum wanted literal.constant

-- nothing is wrong with the text of a value where this kind is wanted
abbrev pub is_well_written : Grounds → Scenery → Option TypeKind → Expr → Bool
is_well_written grounds scene wanted expr =
    is_understood wanted expr (expr_denoted grounds.facts (around_formals scene.formals) expr)

-- What a value stands for where this kind is wanted. What is wrong as it is written, or hangs on something faulty, stands
-- for nothing, and nothing more is said of it.
unfoldable pub fine_datum : Grounds → Scenery → List MadeObject → Option TypeKind → Expr → Option Datum
fine_datum grounds scene objects wanted expr =
    if is_well_written grounds scene wanted expr then expr_datum grounds scene objects wanted expr else None

-- what arguments stand for, of which the first has this number
abbrev pub fine_data : Grounds → Scenery → List MadeObject → List (Option TypeKind) → ℕ → List Expr → List (Option Datum)
fine_data grounds scene objects wants number [] = []
fine_data grounds scene objects wants number (expr ∷ more) =
    fine_datum grounds scene objects (wanted_at wants number) expr
    ∷ fine_data grounds scene objects wants (number + 1) more

-- ---- objects that aren't made yet

abbrev pub is_unmade_object : Option NamedObject → Bool
is_unmade_object (Some named.Unmade) = true
is_unmade_object named_object = false

abbrev pub is_unmade_sort : List NamedObject → ℕ → Sort → Bool
is_unmade_sort named_objects entry sorts.Object = is_unmade_object (slice_get named_objects entry)
is_unmade_sort named_objects entry sort = false

-- it is the name of an object that isn't made by now
abbrev pub is_unmade_meaning : Grounds → Option Meaning → Bool
is_unmade_meaning grounds (Some (meanings.Entry entry)) =
    option_map_or (λ declared. is_unmade_sort grounds.named_objects entry declared.sort)
    (slice_get grounds.facts.names entry) false
is_unmade_meaning grounds meaning = false

-- a value names such an object at its front
abbrev pub is_unmade : Grounds → Scenery → Expr → Bool
is_unmade grounds scene (exprs.Path path) =
    if is_some (formal_number scene.formals path.first.text) then false
    else is_unmade_meaning grounds (meaning_of grounds.facts.names path.first.text)
is_unmade grounds scene (exprs.Literal literal) = false

-- what is wrong with a value as it is read: it names an object that isn't there yet
abbrev pub unmade_faults : Grounds → Scenery → Expr → List Fault
unmade_faults grounds scene expr =
    faults_here scene.decl (expr_place expr) (fault_if (is_unmade grounds scene expr) faults.Unknown)

abbrev pub all_unmade_faults : Grounds → Scenery → List Expr → List Fault
all_unmade_faults grounds scene exprs = flat_map (unmade_faults grounds scene) exprs
