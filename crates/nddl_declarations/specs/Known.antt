-- What the typedefs of a program mean, and all that is wrong with a type.
use Rattle.std.specs.Prelude.{◌≡◌, ℕ, ◌<◌, List, ◌++◌, Option, Some, None, slice_get, slice_set, length}
use Rattle.std.specs.Prelude.{if◌then◌else◌}
use Rattle.std.specs.Option.{option_and_then}
use Rattle.eu_forest.specs.Lines.{IsLineageOf, rootedness_in}
use Rattle.nddl_ast.specs.declared.declaration.Decl.{Decl}
use Rattle.nddl_ast.specs.declared.expression.Type as types
use Rattle.nddl_symbols.specs.declared.declared.Declared.{Declared}
use Rattle.nddl_symbols.specs.declared.fault.Fault.{Fault}
use Rattle.nddl_typeexpr.specs.declared.kind.TypeMeaning.{TypeMeaning}
use Rattle.nddl_typeexpr.specs.Bases.{base_kind}
use Rattle.nddl_typeexpr.specs.Types.{is_fine, type_faults, type_meaning}
use Rattle.nddl_hierarchy.specs.Ancestors.{objects_faults}
use Rattle.nddl_hierarchy.specs.Facts.{Facts}
use Rattle.nddl_hierarchy.specs.Decls.{decl_of_name, typedef_type}
use Rattle.nddl_hierarchy.specs.Lines.{is_rooted, is_typedef_sort, parents_of}

-- all that is wrong with the type in the declaration of this number
unfoldable pub all_type_faults : Facts → ℕ → types.Type → List Fault
all_type_faults facts decl type =
    type_faults facts.names facts.known decl type
    ++ objects_faults facts.names facts.program facts.parents decl
    (base_kind facts.names facts.known type.base) type.bounds

-- what the type means, if nothing is wrong with it
abbrev pub fine_meaning : Facts → types.Type → Option TypeMeaning
fine_meaning facts type =
    if is_fine (all_type_faults facts 0 type) then type_meaning facts.names facts.known type else None

-- what the name of this number is declared as, if it is a typedef
abbrev pub declared_type : List Declared → List Decl → ℕ → Option types.Type
declared_type names program entry =
    option_and_then
    (λ declared. if is_typedef_sort declared.sort then option_and_then typedef_type (decl_of_name program declared) else None)
    (slice_get names entry)

-- what the name of this number means as a typedef: what its type does, if it stands on no circle
abbrev pub known_meaning : Facts → ℕ → Option TypeMeaning
known_meaning facts entry =
    if is_rooted (rootedness_in facts.marked entry)
    then option_and_then (fine_meaning facts) (declared_type facts.names facts.program entry)
    else None

-- what is known, with this of the name of the number, if there is one
abbrev pub with_meaning : List (Option TypeMeaning) → ℕ → Option TypeMeaning → List (Option TypeMeaning)
with_meaning known entry meaning = slice_set known entry meaning

-- The facts of a program of these names: each name stands under its parent as is marked, and each typedef means what its
-- type does.
pub record AreFacts (names : List Declared) (program : List Decl) (facts : Facts) : Type 0 where
  pub is_names : facts.names ≡ names
  pub is_program : facts.program ≡ program
  pub is_parents : facts.parents ≡ parents_of names program
  pub order : List ℕ
  pub lineage : IsLineageOf facts.parents facts.marked order
  pub whole : length facts.known ≡ length names
  pub means : (entry : ℕ) → entry < length names → slice_get facts.known entry ≡ Some (known_meaning facts entry)
