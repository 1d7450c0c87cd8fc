-- The objects of a program, in the order in which they are declared.
use Rattle.std.specs.Prelude.{ℕ, ◌+◌, false, List, [], ◌∷◌, Option, Some, None, map, slice_set, if◌then◌else◌}
use Rattle.std.specs.Option.{option_map_or}
use Rattle.nddl_ast.specs.declared.declaration.Decl.{Decl}
use Rattle.nddl_ast.specs.declared.declaration.Decl.TheVariants as decls
use Rattle.nddl_ast.specs.declared.expression.Creation.{Creation}
use Rattle.nddl_ast.specs.declared.expression.Init.{Init}
use Rattle.nddl_ast.specs.declared.expression.Init.TheVariants as inits
use Rattle.nddl_ast.specs.declared.statement.Variable.{Variable}
use Rattle.nddl_symbols.specs.declared.fault.Fault.{Fault}
use Rattle.nddl_symbols.specs.Finding.{earlier_fault, earliest_fault}
use Rattle.nddl_symbols.specs.Names.{is_config_sort, sort_of_variable}
use Rattle.nddl_symbols.specs.Scope.{named_number}
use Rattle.nddl_hierarchy.specs.Facts.{Facts}
use Rattle.nddl_constructors.specs.Objects.{written_faults}
use Rattle.nddl_construction.specs.declared.made.Datum.{Datum}
use Rattle.nddl_construction.specs.declared.made.NamedObject.{NamedObject}
use Rattle.nddl_construction.specs.declared.made.NamedObject.TheVariants as named
use Rattle.nddl_construction.specs.Scene.{Grounds, Scenery}
use Rattle.nddl_objects.specs.Construction.{Construction, construction_of}
use Rattle.nddl_objects.specs.Made.{made_by, new_datum, new_made}
use Rattle.nddl_objects.specs.declared.objects.Program as code
use Rattle.nddl_objects.specs.Settings.{setting_data, setting_faults_of}

-- ---- where the making has got to

-- the objects so far, with what making them has met; the earliest of what is wrong as it is written, or with what the
-- settings stand for; the object of each name of the files; and the values of the settings, if there are any
pub record Progress : Type 0 where
  pub so_far : Construction
  pub first : Option Fault
  pub named_objects : List NamedObject
  pub settings : List (Option Datum)

abbrev pub progress_of : code.Program → Progress
progress_of program =
    record {
      so_far = construction_of program.making;
      first = program.first;
      named_objects = program.named_objects.items;
      settings = program.settings;
    }

-- the earliest of all that is wrong so far
abbrev pub progress_fault : Progress → Option Fault
progress_fault progress =
    option_map_or (λ fault. earlier_fault progress.first fault) progress.so_far.first progress.first

abbrev pub progress_grounds : Facts → Progress → Grounds
progress_grounds facts progress = record { facts = facts; named_objects = progress.named_objects }

-- outside of constructors nothing stands around
abbrev pub bare_scene : ℕ → Scenery
bare_scene decl = record { decl = decl; formals = []; values = [] }

-- how deep constructors may make objects in one another, and the `new` outside of them
abbrev pub most_levels : ℕ
most_levels = 17

-- ---- declarations

-- the name of this number stands for this from now on
abbrev pub with_named : List NamedObject → Option ℕ → Option Datum → List NamedObject
with_named named_objects None datum = named_objects
with_named named_objects (Some entry) datum = slice_set named_objects entry (named.Made datum)

-- the object of the name is made, and can then be named
abbrev pub object_declared : Facts → ℕ → Variable → Creation → Progress → Progress
object_declared facts decl variable creation progress =
    let grounds = progress_grounds facts progress in
    let entry = named_number false facts.names variable.name.text in
    record {
      so_far = new_made (made_by most_levels grounds) grounds (bare_scene decl) variable.name.text entry creation progress.so_far;
      first = progress.first;
      named_objects = with_named progress.named_objects entry (new_datum most_levels facts creation progress.so_far);
      settings = progress.settings;
    }

-- the settings are read
abbrev pub settings_declared : Facts → ℕ → Creation → Progress → Progress
settings_declared facts decl creation progress =
    let grounds = progress_grounds facts progress in
    record {
      so_far = progress.so_far;
      first = earliest_fault progress.first (setting_faults_of grounds (bare_scene decl) progress.so_far.objects creation);
      named_objects = progress.named_objects;
      settings = setting_data grounds (bare_scene decl) progress.so_far.objects creation;
    }

abbrev pub new_declared : Facts → ℕ → Variable → Creation → Progress → Progress
new_declared facts decl variable creation progress =
    if is_config_sort (sort_of_variable variable) then settings_declared facts decl creation progress
    else object_declared facts decl variable creation progress

abbrev pub init_declared : Facts → ℕ → Variable → Option Init → Progress → Progress
init_declared facts decl variable (Some (inits.New creation)) progress = new_declared facts decl variable creation progress
init_declared facts decl variable init progress = progress

-- what comes of the declaration of this number
abbrev pub one_declared : Facts → ℕ → Decl → Progress → Progress
one_declared facts decl (decls.Variable variable) progress = init_declared facts decl variable variable.init progress
one_declared facts decl other progress = progress

-- of declarations one after another, of which the first has this number
abbrev pub all_declared : Facts → ℕ → List Decl → Progress → Progress
all_declared facts number [] progress = progress
all_declared facts number (decl ∷ more) progress = all_declared facts (number + 1) more (one_declared facts number decl progress)

-- ---- the program

-- Nothing is made yet. What is wrong with the text counts, whether it is run or not.
abbrev pub first_progress : Facts → Progress
first_progress facts =
    record {
      so_far = record {
        objects = [];
        first = None;
        is_full = false;
        is_deep = false;
      };
      first = earliest_fault None (written_faults facts);
      named_objects = map (λ name. named.Unmade) facts.names;
      settings = [];
    }

-- The objects that a program makes, the earliest of what making them meets, and the earliest of all else that is wrong with
-- how they are made.
unfoldable pub last_progress : Facts → Progress
last_progress facts = all_declared facts 0 facts.program (first_progress facts)
