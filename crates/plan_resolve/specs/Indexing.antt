-- What an index of names says.
use Rattle.std.specs.Prelude.{◌≡◌, ℕ, List, Some, MatchOption, Contains, map, slice_get}
use Rattle.model_core.specs.declared.class.Object.{Object}
use Rattle.model_core.specs.declared.model.Model.{Model}
use Rattle.model_core.specs.Naming.{labels, global_names}
use Rattle.eu_index.specs.Index.{Noted, noted_number}
use Rattle.plan_resolve.specs.declared.indexed.ModelIndex.{ModelIndex}

-- the index has each of the names at a place where it stands, and no other
abbrev pub IsIndexOf : List (List ℕ) → Noted → Type 0
IsIndexOf names noted =
    (name : List ℕ)
    → MatchOption (noted_number noted name) (Contains names name → ⊥) (λ place. slice_get names place ≡ Some name)

-- the names of the objects, in order
abbrev pub object_names : List Object → List (List ℕ)
object_names objects = map (λ object. object.name) objects

-- the index has the model's labels and the names of its globals and objects
pub record IsModelIndex (model : Model) (index : ModelIndex) : Type 0 where
  pub roots : IsIndexOf (labels model) index.roots
  pub globals : IsIndexOf (global_names model) index.globals
  pub objects : IsIndexOf (object_names model.objects) index.objects
