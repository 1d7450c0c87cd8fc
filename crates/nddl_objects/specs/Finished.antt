-- What is wrong with an object whose constructors have run.
use Rattle.std.specs.Prelude.{ℕ, ◌==◌, Bool, true, false, ◌||◌, ◌&&◌, not, pos, int_lt, List, ◌++◌}
use Rattle.std.specs.Prelude.{Option, Some, codes, if◌then◌else◌}
use Rattle.std.specs.List.{list_all, list_any}
use Rattle.nddl_ast.specs.declared.declaration.Member.{Member}
use Rattle.nddl_ast.specs.declared.declaration.Member.TheVariants as members
use Rattle.nddl_ast.specs.declared.kind.TextKind.TheVariants as faults
use Rattle.nddl_symbols.specs.declared.place.Place.{Place}
use Rattle.nddl_symbols.specs.declared.fault.Fault.{Fault}
use Rattle.nddl_symbols.specs.declared.scope.Meaning.{Meaning}
use Rattle.nddl_symbols.specs.declared.scope.Meaning.TheVariants as meanings
use Rattle.nddl_symbols.specs.Finding.{faults_here}
use Rattle.nddl_symbols.specs.Scope.{fault_if}
use Rattle.nddl_hierarchy.specs.Facts.{Facts}
use Rattle.nddl_hierarchy.specs.Decls.{members_of}
use Rattle.nddl_construction.specs.declared.made.Datum.{Datum}
use Rattle.nddl_construction.specs.declared.made.Datum.TheVariants as datums
use Rattle.nddl_construction.specs.declared.made.FieldValue.{FieldValue}
use Rattle.nddl_construction.specs.Fields.{field_datum, is_set_once}

-- ---- fields that are set

-- the member is no field, or one that is set once
abbrev pub is_member_set : List FieldValue → Member → Bool
is_member_set fields (members.Field typed) = is_set_once typed.name.text fields
is_member_set fields member = true

-- each field of the built-in class of this number is
abbrev pub are_builtin_set : List FieldValue → ℕ → Bool
are_builtin_set fields number =
    if number == 2 then is_set_once (codes "capacity") fields
    else (if number == 3
    then is_set_once (codes "initial") fields
    && (is_set_once (codes "low") fields && is_set_once (codes "high") fields)
    else true)

-- each field that a class adds is
abbrev pub is_class_set : Facts → List FieldValue → Meaning → Bool
is_class_set facts fields (meanings.BuiltIn number) = are_builtin_set fields number
is_class_set facts fields (meanings.Entry entry) = list_all (is_member_set fields) (members_of facts.names facts.program entry)

-- each field of an object with this line is
abbrev pub are_all_set : Facts → List FieldValue → List Meaning → Bool
are_all_set facts fields line = list_all (is_class_set facts fields) line

-- ---- the numbers of built-in classes

abbrev pub datum_below : Option Datum → Option Datum → Bool
datum_below (Some (datums.Number one)) (Some (datums.Number other)) = int_lt one other
datum_below one other = false

-- a capacity isn't negative, and a level begins within its limits
abbrev pub is_out_of_bounds : List FieldValue → ℕ → Bool
is_out_of_bounds fields number =
    if number == 2 then datum_below (field_datum (codes "capacity") fields) (Some (datums.Number (pos 0)))
    else (if number == 3
    then datum_below (field_datum (codes "initial") fields) (field_datum (codes "low") fields)
    || datum_below (field_datum (codes "high") fields) (field_datum (codes "initial") fields)
    else false)

abbrev pub is_class_out : List FieldValue → Meaning → Bool
is_class_out fields (meanings.BuiltIn number) = is_out_of_bounds fields number
is_class_out fields (meanings.Entry entry) = false

-- ---- the object

-- All that is wrong with the fields of an object with this line, which the `new` before this place makes.
abbrev pub finished_faults : Facts → Place → List Meaning → List FieldValue → List Fault
finished_faults facts place line fields =
    faults_here place.decl place.at (fault_if (not (are_all_set facts fields line)) faults.WrongCount)
    ++ faults_here place.decl place.at (fault_if (list_any (is_class_out fields) line) faults.NotInDomain)
