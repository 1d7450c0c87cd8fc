-- What is known of a program whose names, types and rules are as they should be, and what follows from it.
use Rattle.std.specs.Prelude.{List, []}
use Rattle.model_core.specs.declared.class.Object.{Object}
use Rattle.nddl_ast.specs.declared.declaration.FileDecls.{FileDecls}
use Rattle.eu_index.specs.Index.{Noted}
use Rattle.nddl_hierarchy.specs.Facts.{Facts}
use Rattle.nddl_types.specs.declared.table.TypeTable.{TypeTable}
use Rattle.nddl_terms.specs.PlainTree.{PlainTree}
use Rattle.nddl_objects.specs.Modelled.{modelled_objects}
use Rattle.nddl_objects.specs.Objects.{Progress, last_progress}
use Rattle.nddl_terms.specs.declared.lexicon.Lexicon.{Lexicon}
use Rattle.nddl_env.specs.Lexicons.{lexicon_of}
use Rattle.nddl_env.specs.Shapes.{World}
use Rattle.nddl_rules.specs.Told.{scope_places}

-- its files, what is known of their names and types, their table, and the trees of their rules
pub record Known : Type 0 where
  pub files : List FileDecls
  pub facts : Facts
  pub table : TypeTable
  pub trees : List PlainTree

abbrev pub known_by : List FileDecls → Facts → TypeTable → List PlainTree → Known
known_by files facts table trees = record { files = files; facts = facts; table = table; trees = trees }

-- where making its objects gets to
abbrev pub progress_known : Known → Progress
progress_known known = last_progress known.facts

-- the program with its objects
abbrev pub world_known : Known → World
world_known known = record {
  facts = known.facts;
  enums = known.table.enums;
  named_objects = (progress_known known).named_objects;
  objects = (progress_known known).so_far.objects;
}

-- what its names, classes and predicates stand for
abbrev pub lexicon_known : Known → Lexicon
lexicon_known known = lexicon_of (world_known known)

-- its names, each with its place in the scope
abbrev pub scope_known : Known → Noted
scope_known known = scope_places [] 0 known.table.scope

-- its objects as a model has them
abbrev pub objects_known : Known → List Object
objects_known known = modelled_objects known.facts known.table.classes (progress_known known).so_far.objects
