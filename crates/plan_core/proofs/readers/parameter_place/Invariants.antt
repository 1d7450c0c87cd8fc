use Rattle.std.proofs.Common.{◌≡◌, ℕ, ◌<◌, Some, slice_get}
use Rattle.model_core.specs.declared.variable.VarDecl.{VarDecl}
use Rattle.plan_core.proofs.readers.parameter_place.Given as goal

-- none of the parameters before this one has the name
abbrev pub invariant-loop-place : goal.invariant-loop-place
invariant-loop-place l =
    (place : ℕ) (variable : VarDecl) → place < l.place → slice_get l.params place ≡ Some variable → variable.name ≡ l.word → ⊥
