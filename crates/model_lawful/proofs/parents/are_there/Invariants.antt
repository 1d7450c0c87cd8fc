use Rattle.std.specs.Prelude.{◌≡◌, ◌<◌, ℕ, Some, length, slice_get}
use Rattle.model_lawful.proofs.parents.are_there.Given as goal

abbrev pub invariant-loop-parent : goal.invariant-loop-parent
invariant-loop-parent l = (number parent : ℕ) → number < l.parent-index → slice_get l.parents number ≡ Some (Some parent) → parent < length l.parents
