-- What is known of a program where its types are read.
use Rattle.std.specs.Prelude.{ℕ, Bool, List, Option, map}
use Rattle.eu_forest.specs.declared.walk.Mark.{Mark}
use Rattle.nddl_ast.specs.declared.declaration.Decl.{Decl}
use Rattle.nddl_ast.specs.declared.expression.Bounds.{Bounds}
use Rattle.nddl_ast.specs.declared.expression.Value.{Value}
use Rattle.nddl_symbols.specs.declared.declared.Declared.{Declared}
use Rattle.nddl_symbols.specs.declared.fault.Fault.{Fault}
use Rattle.nddl_symbols.specs.declared.scope.Meaning.{Meaning}
use Rattle.nddl_typeexpr.specs.declared.kind.TypeKind.{TypeKind}
use Rattle.nddl_typeexpr.specs.declared.kind.TypeMeaning.{TypeMeaning}
use Rattle.nddl_hierarchy.specs.declared.basis.Basis as code
use Rattle.nddl_hierarchy.specs.Ancestors.{foreign_faults, is_foreign, is_outside, objects_faults}

-- the names and declarations of a program, what they stand under, how, and what the typedefs mean
pub record Facts : Type 0 where
  pub names : List Declared
  pub program : List Decl
  pub parents : List (Option ℕ)
  pub marked : List Mark
  pub known : List (Option TypeMeaning)

-- that which the code keeps
abbrev pub facts_of : code.Basis → Facts
facts_of basis = record {
  names = basis.types.scope.now;
  program = map (λ decl. decl.now) basis.decls.now;
  parents = basis.parents.now;
  marked = basis.lineage.now.marks.items;
  known = basis.types.known.now;
}

abbrev pub is_outside_in : code.Basis → Meaning → Option Meaning → Bool
is_outside_in basis class made =
    let facts = facts_of basis in is_outside facts.names facts.program facts.parents class made

abbrev pub is_foreign_in : code.Basis → Meaning → Value → Bool
is_foreign_in basis class value =
    let facts = facts_of basis in is_foreign facts.names facts.program facts.parents class value

abbrev pub faults_of_foreign : code.Basis → ℕ → Meaning → List Value → List Fault
faults_of_foreign basis decl class values =
    let facts = facts_of basis in foreign_faults facts.names facts.program facts.parents decl class values

abbrev pub faults_of_objects : code.Basis → ℕ → Option TypeKind → Bounds → List Fault
faults_of_objects basis decl kind bounds =
    let facts = facts_of basis in objects_faults facts.names facts.program facts.parents decl kind bounds
