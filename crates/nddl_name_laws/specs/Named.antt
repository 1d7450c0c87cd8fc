-- That names of objects stand for objects, and labels of posted tokens denote tokens, where nothing is wrong with them.
use Rattle.std.specs.Prelude.{◌≡◌, ℕ, ℤ, List, [], Some, None, All, Contains, slice_get}
use Rattle.model_core.specs.declared.class.Object.{Object}
use Rattle.nddl_ast.specs.declared.declaration.FileDecls.{FileDecls}
use Rattle.nddl_symbols.specs.declared.declared.Declared.{Declared}
use Rattle.nddl_symbols.specs.declared.declared.Sort.TheVariants as sorts
use Rattle.nddl_hierarchy.specs.Facts.{Facts}
use Rattle.nddl_types.specs.declared.table.TypeTable.{TypeTable}
use Rattle.nddl_types.specs.Table.{IsTable}
use Rattle.nddl_objects.specs.Objects.{last_progress, progress_fault}
use Rattle.nddl_problem_check.specs.Texts.{problem_text_faults}
use Rattle.nddl_env.specs.Lexicons.{lexicon_of}
use Rattle.nddl_env.specs.Shapes.{World}
use Rattle.nddl_terms.specs.declared.lexicon.Attribute.{Attribute}
use Rattle.nddl_terms.specs.Lexicon.{class_objects, shape_fields}
use Rattle.nddl_terms.specs.PlainTree.{PlainTree}
use Rattle.nddl_rules.specs.Told.{AreFileTrees}
use Rattle.nddl_unroll.specs.Meant.{IsTreeMeant}
use Rattle.nddl_laws.specs.Given.{AreGiven}
use Rattle.nddl_rule_laws.specs.Meanings.{DenotesToken, HasContent, StandsForObject}

-- the program with the objects that it makes
abbrev pub made_world : Facts → TypeTable → World
made_world facts table = record {
  facts = facts;
  enums = table.enums;
  named_objects = (last_progress facts).named_objects;
  objects = (last_progress facts).so_far.objects;
}

-- each name that is declared as an object stands for one, if nothing is wrong with types and objects
abbrev pub NamesStandForObjects : Type 0
NamesStandForObjects =
    (files : List FileDecls) (table : TypeTable) → AreGiven files → (is : IsTable files table)
    → progress_fault (last_progress is.facts) ≡ None
    → (entry : ℕ) (declared : Declared) → slice_get is.facts.names entry ≡ Some declared → declared.sort ≡ sorts.Object
    → StandsForObject (made_world is.facts table) entry declared

-- and each label of a posted token denotes a token, if nothing is wrong with the text of the problem either
abbrev pub LabelsDenoteTokens : Type 0
LabelsDenoteTokens =
    (files : List FileDecls) (table : TypeTable) → AreGiven files → (is : IsTable files table)
    → progress_fault (last_progress is.facts) ≡ None
    → problem_text_faults is.facts ≡ []
    → (entry : ℕ) (declared : Declared) → slice_get is.facts.names entry ≡ Some declared → declared.sort ≡ sorts.Root
    → DenotesToken is.facts declared

-- each object has something in each of its fields, in one of objects one of the field's class
abbrev pub AreWhole : World → List Object → Type 0
AreWhole world objects =
    (class number : ℕ) (value : ℤ) (attribute : Attribute) → Contains (class_objects (lexicon_of world) class) value
    → slice_get (shape_fields (lexicon_of world) class) number ≡ Some attribute
    → HasContent (lexicon_of world) objects value number attribute

-- then all that is read in each tree of the files means something, if nothing is wrong with their rules either
abbrev pub TreesAreMeantWhereWhole : Type 0
TreesAreMeantWhereWhole =
    (files : List FileDecls) (table : TypeTable) (trees : List PlainTree) (objects : List Object) → AreGiven files
    → (is : IsTable files table)
    → AreFileTrees table files trees → progress_fault (last_progress is.facts) ≡ None → problem_text_faults is.facts ≡ []
    → AreWhole (made_world is.facts table) objects → All (IsTreeMeant (lexicon_of (made_world is.facts table)) objects) trees
