-- The problem of a program.
use Rattle.std.specs.Prelude.{ℕ, pos, List, [], ◌++◌, Option, length}
use Rattle.model_core.specs.declared.class.Object.{Object}
use Rattle.model_core.specs.declared.model.Problem.{Problem}
use Rattle.model_core.specs.declared.model.Root.{Root}
use Rattle.model_core.specs.declared.variable.VarDecl.{VarDecl}
use Rattle.nddl_ast.specs.declared.declaration.FileDecls.{FileDecls}
use Rattle.nddl_symbols.specs.declared.site.Site.{Site}
use Rattle.eu_index.specs.Index.{Noted}
use Rattle.nddl_construction.specs.declared.made.Datum.{Datum}
use Rattle.nddl_terms.specs.declared.lexicon.Lexicon.{Lexicon}
use Rattle.nddl_terms.specs.Readings.{Readings, no_places}
use Rattle.nddl_env.specs.Shapes.{World, world_of}
use Rattle.nddl_instance.specs.Outside.{Outsides}
use Rattle.nddl_instance.specs.Roots.{posted_roots}
use Rattle.nddl_instance.specs.Globals.{declared_globals}
use Rattle.nddl_instance.specs.declared.assertions.Assertions.{Assertions}
use Rattle.nddl_instance.specs.Asserted.{ProblemText, assertions_of}
use Rattle.nddl_instance.specs.declared.posing.Posing as code
use Rattle.nddl_instance.specs.declared.posing.Stated.{Stated}
use Rattle.nddl_instance.specs.Renumbered.{field_globals, global_items}
use Rattle.nddl_instance.specs.Settings.{natural_number, setting_or}

-- What is known where the problem of a program is made: the program with its objects; classes, predicates, and what its names
-- stand for; the objects as a model has them; the names, each with its place in the scope; the files, and where their joined
-- declarations stand; and the settings, if there are any.
pub record Posing : Type 0 where
  pub world : World
  pub lexicon : Lexicon
  pub objects : List Object
  pub scope : Noted
  pub files : List FileDecls
  pub sites : List Site
  pub settings : List (Option Datum)

-- that which the code keeps
abbrev pub posing_of : code.Posing → Posing
posing_of posing = record {
  world = world_of posing.premises;
  lexicon = posing.lexicon.now;
  objects = posing.objects.now;
  scope = posing.scope.now;
  files = posing.files.now;
  sites = posing.sites.now;
  settings = posing.settings.now;
}

-- ---- what is known outside of rules

-- outside of rules the text declares neither turns nor locals nor slots
abbrev pub bare_readings : Posing → Readings
bare_readings posing =
    record { lexicon = posing.lexicon; objects = posing.objects; names = []; places = no_places; pred = 0 }

abbrev pub outside_rules : Posing → Outsides
outside_rules posing = record { reading = bare_readings posing; scope = posing.scope }

-- its text, where so many globals are declared
abbrev pub text_beside : Posing → ℕ → ProblemText
text_beside posing count =
    record { outside = outside_rules posing; files = posing.files; sites = posing.sites; globals = count }

-- ---- the problem

-- What is stated beside the roots: the globals that are declared and behind them those for fields, the constraints, and the
-- decisions.
abbrev pub stated_with : List VarDecl → Assertions → Stated
stated_with globals asserted = record {
  globals = globals ++ field_globals (length globals) asserted.growth.locals;
  items = global_items (length globals) asserted.growth.entries;
  decisions = asserted.decisions;
}

abbrev pub stated_beside : Posing → List VarDecl → Stated
stated_beside posing globals =
    stated_with globals (assertions_of (text_beside posing (length globals)) posing.world.facts.program)

abbrev pub stated_of : Posing → Stated
stated_of posing = stated_beside posing (declared_globals posing.world posing.world.facts.program)

-- Without settings the horizon goes from 0 to 1,000, and a search may visit 1,000 lists.
abbrev pub problem_stating : List (Option Datum) → List Root → Stated → Problem
problem_stating settings roots stated = record {
  start = setting_or (pos 0) settings 0;
  end = setting_or (pos 1000) settings 1;
  steps = natural_number (setting_or (pos 1000) settings 2);
  roots = roots;
  globals = stated.globals;
  items = stated.items;
  decisions = stated.decisions;
}

-- The problem of a program.
abbrev pub posed_problem : Posing → Problem
posed_problem posing =
    problem_stating posing.settings (posted_roots (outside_rules posing) posing.world.facts.program) (stated_of posing)
