-- The names of a compiled model, and the classes of its objects.
use Rattle.std.specs.Prelude.{◌≡◌, ◌≢◌, ℕ, ◌≤◌, Some, All, AllPairs, Contains, length, map, slice_get}
use Rattle.eu_name.specs.Word.{IsName}
use Rattle.model_core.specs.declared.class.Class.{Class}
use Rattle.model_core.specs.declared.class.Object.{Object}
use Rattle.model_core.specs.declared.model.Model.{Model}
use Rattle.model_core.specs.declared.variable.VarDecl.{VarDecl}
use Rattle.model_core.specs.Naming.{IsGlobalName, IsObjectName, builtin_names, declared_names, file_names}
use Rattle.model_core.specs.Variables.{IsGlobal}
use Rattle.nddl_problem.specs.Compiled.{compiled_model}
use Rattle.nddl_problem.specs.Known.{Known}
use Rattle.nddl_model_laws.specs.Faultless.{IsFaultless}

-- each global has a name, or stands for a field and is called `!` and its number
abbrev pub HasGlobalNames : Type 0
HasGlobalNames = (known : Known) → IsFaultless known → (number : ℕ) (variable : VarDecl)
    → IsGlobal (compiled_model known) number variable → IsGlobalName number variable.name

-- the label of each root is a name
abbrev pub HasLabels : Type 0
HasLabels = (known : Known) → IsFaultless known → All (λ root. IsName root.label) (compiled_model known).problem.roots

-- an object has the name of one, and is of a class that is there, with a value for each of its fields
pub record IsPlacedObject (model : Model) (object : Object) : Type 0 where
  pub name : IsObjectName object.name
  pub class : Class
  pub is_class : slice_get model.classes object.class ≡ Some class
  pub whole : length object.fields ≡ length class.fields

-- it is so of each object
abbrev pub HasPlacedObjects : Type 0
HasPlacedObjects = (known : Known) → IsFaultless known → All (IsPlacedObject (compiled_model known)) (compiled_model known).objects

-- none of the names that it declares is one that the language gives to a class of its own
abbrev pub HasNoBuiltinNames : Type 0
HasNoBuiltinNames = (known : Known) → IsFaultless known
    → All (λ name. Contains builtin_names name → ⊥) (declared_names (compiled_model known))

-- all names in the scope of its file differ, if its globals are few and the names of its objects differ
abbrev pub ModelsHaveDistinctNames : Type 0
ModelsHaveDistinctNames = (known : Known) → IsFaultless known → length (compiled_model known).problem.globals ≤ 4096
    → AllPairs ◌≢◌ (map (λ object. object.name) (compiled_model known).objects)
    → AllPairs ◌≢◌ (file_names (compiled_model known))
