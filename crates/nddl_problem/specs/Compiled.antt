-- The model of a program, and what is wrong first with its problem.
use Rattle.std.specs.Prelude.{List, ◌++◌, Option}
use Rattle.model_core.specs.declared.model.Model.{Model}
use Rattle.nddl_symbols.specs.Joined.{joined_sites}
use Rattle.nddl_symbols.specs.declared.fault.Fault.{Fault}
use Rattle.nddl_symbols.specs.Finding.{earliest_fault}
use Rattle.nddl_types.specs.Classes.{enums_of}
use Rattle.nddl_objects.specs.Objects.{progress_fault}
use Rattle.nddl_unroll.specs.Weighing.{tree_limits}
use Rattle.nddl_instance.specs.Modelled.{modelled_classes, modelled_preds}
use Rattle.nddl_unroll.specs.Rules.{tree_rules}
use Rattle.nddl_problem_check.specs.Limits.{problem_limit_faults}
use Rattle.nddl_problem_check.specs.Texts.{problem_text_faults}
use Rattle.nddl_instance.specs.Posed.{Posing, posed_problem}
use Rattle.nddl_problem.specs.Known.{Known, lexicon_known, objects_known, progress_known, scope_known, world_known}

-- ---- faults

-- All that is wrong with the problem beside its objects: what its text says, what only its objects tell, the limits that its
-- roots and globals pass, and those that the rules of its predicates do.
abbrev pub problem_faults : Known → List Fault
problem_faults known =
    problem_text_faults known.facts
    ++ (problem_limit_faults known.facts (progress_known known) (lexicon_known known) (scope_known known)
    ++ tree_limits (lexicon_known known) known.trees)

-- The earliest of these and of all that is wrong with the objects.
abbrev pub problem_fault : Known → Option Fault
problem_fault known = earliest_fault (progress_fault (progress_known known)) (problem_faults known)

-- ---- the model

-- what the problem is made of
abbrev pub posing_known : Known → Posing
posing_known known = record {
  world = world_known known;
  lexicon = lexicon_known known;
  objects = objects_known known;
  scope = scope_known known;
  files = known.files;
  sites = joined_sites known.files;
  settings = (progress_known known).settings;
}

-- The model: its enums; the classes and predicates of the table, whose fields and parameters may be what there is now; the
-- objects; the rules, one for each tree; and the problem.
abbrev pub compiled_model : Known → Model
compiled_model known = record {
  enums = enums_of known.facts.program;
  classes = modelled_classes (lexicon_known known) 0 known.table.classes;
  objects = objects_known known;
  preds = modelled_preds (lexicon_known known) known.trees 0 known.table.preds;
  rules = tree_rules (lexicon_known known) (objects_known known) known.trees;
  problem = posed_problem (posing_known known);
}
