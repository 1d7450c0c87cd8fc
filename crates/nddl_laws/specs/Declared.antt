-- That a table leaves out nothing that is declared.
use Rattle.std.specs.Prelude.{◌≡◌, ℕ, List, [], Some, All, Contains, map, slice_get, ⊤}
use Rattle.model_core.specs.declared.class.Class.{Class}
use Rattle.model_core.specs.declared.class.Pred.{Pred}
use Rattle.model_core.specs.Naming.{names_of}
use Rattle.nddl_ast.specs.declared.declaration.Decl.{Decl}
use Rattle.nddl_ast.specs.declared.declaration.Decl.TheVariants as decls
use Rattle.nddl_ast.specs.declared.declaration.FileDecls.{FileDecls}
use Rattle.nddl_ast.specs.declared.declaration.Member.{Member}
use Rattle.nddl_ast.specs.declared.declaration.Member.TheVariants as members
use Rattle.nddl_ast.specs.declared.declaration.PredicatePart.{PredicatePart}
use Rattle.nddl_ast.specs.declared.declaration.Typed.{Typed}
use Rattle.nddl_ast.specs.declared.name.Name.{Name}
use Rattle.nddl_symbols.specs.Joined.{joined_decls}
use Rattle.nddl_declarations.specs.Members.{parameters_of}
use Rattle.nddl_laws.specs.Given.{AreGiven}
use Rattle.nddl_types.specs.declared.table.TypeTable.{TypeTable}
use Rattle.nddl_types.specs.Table.{IsTable}

-- the class of this number has a predicate of this name, with a parameter for each that is declared, in their order
pub record HasDeclaredPred (table : TypeTable) (number : ℕ) (name : Name) (parts : List PredicatePart) : Type 0 where
  pub found : Pred
  pub there : Contains table.preds found
  pub class : found.class ≡ number
  pub called : found.name ≡ name.text
  pub params : names_of found.params ≡ map (λ (typed : Typed). typed.name.text) (parameters_of parts)

-- a class of the table has this name, with a field and a predicate for each that these members declare
pub record HasDeclaredClass (table : TypeTable) (name : Name) (some : List Member) : Type 0 where
  pub number : ℕ
  pub class : Class
  pub is_class : slice_get table.classes number ≡ Some class
  pub called : class.name ≡ name.text
  pub fields : (typed : Typed) → Contains some (members.Field typed) → Contains (names_of class.fields) typed.name.text
  pub preds : (at : ℕ) (pred : Name) (parts : List PredicatePart) → Contains some (members.Predicate at pred parts)
      → HasDeclaredPred table number pred parts

-- the table has what the declaration declares, if it is an enum or a class
abbrev pub HasDeclared : TypeTable → Decl → Type 0
HasDeclared table (decls.Enum at name members_at members) =
    Contains table.enums (record { name = name.text; members = map (λ (member : Name). member.text) members })
HasDeclared table (decls.Forward at name) = HasDeclaredClass table name []
HasDeclared table (decls.Class at name parent members) = HasDeclaredClass table name members
HasDeclared table decl = ⊤

-- a table of files that some shelf gives leaves nothing out
abbrev pub LeavesNothingOut : Type 0
LeavesNothingOut = (files : List FileDecls) (table : TypeTable) → AreGiven files → IsTable files table
    → All (HasDeclared table) (joined_decls files)
