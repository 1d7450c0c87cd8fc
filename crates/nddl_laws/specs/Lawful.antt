-- What is lawful of a table, in the words of lawful models.
use Rattle.std.specs.Prelude.{◌≡◌, ◌≢◌, ℕ, List, Some, AllPairs, map, slice_get}
use Rattle.nddl_ast.specs.declared.declaration.FileDecls.{FileDecls}
use Rattle.model_core.specs.declared.class.Class.{Class}
use Rattle.model_core.specs.declared.model.Model.{Model}
use Rattle.model_core.specs.Kinds.{IsParentClass, IsUnder}
use Rattle.nddl_types.specs.declared.table.TypeTable.{TypeTable}
use Rattle.nddl_types.specs.Table.{IsTable}

-- what a class of a table extends is one of its classes
abbrev pub HasParentClasses : Type 0
HasParentClasses = (files : List FileDecls) (table : TypeTable) (model : Model) → IsTable files table → model.classes ≡ table.classes
    → (number parent : ℕ) → IsParentClass model number parent → (above : Class) × (slice_get model.classes parent ≡ Some above)

-- no class of a table extends one that is under it
abbrev pub HasNoCircles : Type 0
HasNoCircles = (files : List FileDecls) (table : TypeTable) (model : Model) → IsTable files table → model.classes ≡ table.classes
    → (number parent : ℕ) → IsParentClass model number parent → IsUnder model parent number → ⊥

-- the names of a table are told apart
abbrev pub HasDistinctNames : Type 0
HasDistinctNames = (files : List FileDecls) (table : TypeTable) → IsTable files table
    → AllPairs ◌≢◌ (map (λ named. named.name) table.scope)
