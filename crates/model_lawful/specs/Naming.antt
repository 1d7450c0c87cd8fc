-- The names of globals by their numbers, and names that a file may declare.
use Rattle.std.specs.Prelude.{◌≡◌, ℕ, Bool, List, [], ◌++◌, Some, slice_get, map, All, Contains}
use Rattle.std.specs.List.{flat_map}
use Rattle.model_rules.specs.Distinct.{AddsAll}
use Rattle.model_core.specs.declared.model.Model.{Model}
use Rattle.model_core.specs.declared.variable.VarDecl.{VarDecl}
use Rattle.model_core.specs.Naming.{IsGlobalName, builtin_names, global_names, labels}

-- each variable has a name that a global of its number may have
abbrev pub HaveGlobalNames : List VarDecl → Type 0
HaveGlobalNames variables =
    (number : ℕ) (variable : VarDecl) → slice_get variables number ≡ Some variable → IsGlobalName number variable.name

-- the language doesn't give the name to a class of its own
abbrev pub IsOwnName : List ℕ → Type 0
IsOwnName name = Contains builtin_names name → ⊥

-- it is so of all that a file declares beside classes
pub record HaveOwnNames (model : Model) : Type 0 where
  pub globals : All IsOwnName (global_names model)
  pub roots : All IsOwnName (labels model)
  pub objects : All IsOwnName (map (λ object. object.name) model.objects)
  pub enums : All IsOwnName (map (λ found. found.name) model.enums)
  pub members : All IsOwnName (flat_map (λ found. found.members) model.enums)

-- behind whatever came so far, all are put that come now, and none stands twice; or one does
abbrev pub AddsNext : Bool → List (List ℕ) → List (List ℕ) → Bool → List (List ℕ) → Type 0
AddsNext so_far old more answer new = (first : List (List ℕ)) → AddsAll [] first so_far old → AddsAll [] (first ++ more) answer new
