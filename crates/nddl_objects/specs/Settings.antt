-- The settings of a search.
use Rattle.std.specs.Prelude.{Bool, false, ◌||◌, not, ℤ, pos, int_lt, List, [], ◌∷◌, ◌++◌, Option, Some}
use Rattle.nddl_ast.specs.declared.expression.Creation.{Creation}
use Rattle.nddl_ast.specs.declared.kind.TextKind.TheVariants as faults
use Rattle.nddl_symbols.specs.declared.fault.Fault.{Fault}
use Rattle.nddl_symbols.specs.Finding.{faults_here}
use Rattle.nddl_symbols.specs.Scope.{fault_if}
use Rattle.nddl_typeexpr.specs.declared.kind.TypeKind.{TypeKind}
use Rattle.nddl_typeexpr.specs.declared.kind.TypeKind.TheVariants as kinds
use Rattle.nddl_construction.specs.declared.made.Datum.{Datum}
use Rattle.nddl_construction.specs.declared.made.Datum.TheVariants as datums
use Rattle.nddl_construction.specs.declared.made.MadeObject.{MadeObject}
use Rattle.nddl_construction.specs.Reading.{all_unmade_faults, datum_at, fine_data}
use Rattle.nddl_construction.specs.Scene.{Grounds, Scenery}
use Rattle.nddl_objects.specs.Finished.{datum_below}

-- the first three are whole numbers
abbrev pub setting_wants : List (Option TypeKind)
setting_wants = Some kinds.Int ∷ Some kinds.Int ∷ Some kinds.Int ∷ []

-- what the arguments stand for
abbrev pub setting_data : Grounds → Scenery → List MadeObject → Creation → List (Option Datum)
setting_data grounds scene objects creation = fine_data grounds scene objects setting_wants 0 creation.arguments

abbrev pub is_below : Option Datum → ℤ → Bool
is_below datum number = datum_below datum (Some (datums.Number number))

abbrev pub is_over : Option Datum → ℤ → Bool
is_over datum number = datum_below (Some (datums.Number number)) datum

-- the end isn't behind the start
abbrev pub are_crossed : Option Datum → Option Datum → Bool
are_crossed (Some (datums.Number start)) (Some (datums.Number end)) = not (int_lt start end)
are_crossed start end = false

-- the horizon begins before 0, or ends where it begins or before, or the steps are none or too many
abbrev pub are_wrong_settings : List (Option Datum) → Bool
are_wrong_settings values =
    is_below (datum_at values 0) (pos 0) || (are_crossed (datum_at values 0) (datum_at values 1)
    || (is_below (datum_at values 2) (pos 1) || is_over (datum_at values 2) (pos 1000000)))

-- All that is wrong with what the settings stand for.
abbrev pub setting_faults_of : Grounds → Scenery → List MadeObject → Creation → List Fault
setting_faults_of grounds scene objects creation =
    all_unmade_faults grounds scene creation.arguments
    ++ faults_here scene.decl creation.class.at
    (fault_if (are_wrong_settings (setting_data grounds scene objects creation)) faults.NotInDomain)
