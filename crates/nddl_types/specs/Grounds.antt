-- What is found out of a program before any of its types is read.
use Rattle.std.specs.Prelude.{◌≡◌, List, Option}
use Rattle.eu_forest.specs.Lines.{IsLineageOf}
use Rattle.nddl_ast.specs.declared.declaration.Decl.{Decl}
use Rattle.nddl_symbols.specs.declared.declared.Declared.{Declared}
use Rattle.nddl_symbols.specs.Names.{scope_names}
use Rattle.nddl_typeexpr.specs.declared.kind.Extent.TheVariants.{Whole}
use Rattle.nddl_typeexpr.specs.declared.kind.TypeMeaning.{TypeMeaning}
use Rattle.nddl_hierarchy.specs.Facts.{Facts}
use Rattle.nddl_hierarchy.specs.Lines.{parents_of}
use Rattle.nddl_hierarchy.specs.Shorter.{AreShorter}
use Rattle.nddl_declarations.specs.Known.{AreFacts}
use Rattle.nddl_types.specs.declared.findings.Names.{Names}
use Rattle.nddl_types.specs.declared.findings.Lines.{Lines}
use Rattle.nddl_types.specs.declared.findings.Findings.{Findings}
use Rattle.nddl_types.specs.Classes.{class_entries, class_numbers}

-- these are the names of the program, with the numbers of its classes
pub record AreNames (program : List Decl) (names : Names) : Type 0 where
  pub scope_is : names.scope ≡ scope_names program
  pub entries_are : names.entries.items ≡ class_entries names.scope 0 names.scope
  pub numbers_are : names.numbers.items ≡ class_numbers names.scope 4 0 names.scope

-- these are the lines of the names of the program
pub record AreLines (names : List Declared) (program : List Decl) (lines : Lines) : Type 0 where
  pub parents_are : lines.parents ≡ parents_of names program
  pub lineage_is : IsLineageOf lines.parents lines.lineage.marks.items lines.lineage.order.items
  pub short_are : AreShorter names program lines.parents lines.lineage.marks.items lines.short

-- the facts of a program with these names, lines and meanings of typedefs
abbrev pub facts_in : List Declared → List Decl → Lines → List (Option TypeMeaning) → Facts
facts_in names program lines known = record {
  names = names;
  program = program;
  parents = lines.parents;
  marked = lines.lineage.marks.items;
  known = known;
}

-- the facts that were found of the program
abbrev pub facts_found : List Decl → Findings → Facts
facts_found program findings = facts_in findings.names.scope program findings.lines findings.known.items

-- this was found of the program
pub record AreFound (program : List Decl) (findings : Findings) : Type 0 where
  pub names : AreNames program findings.names
  pub lines : AreLines findings.names.scope program findings.lines
  pub facts : AreFacts findings.names.scope program (facts_found program findings)
  pub is_whole : findings.whole ≡ Whole
