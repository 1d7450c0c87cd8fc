use Rattle.std.proofs.Common.{◌≡◌, ◌<◌, ℕ, Some, slice_get}
use Rattle.model_core.specs.declared.decision.Decision.{Decision}
use Rattle.db_history.specs.Subjects.{IsOfSubject}
use Rattle.db_history.proofs.subject.place_of.Given as goal

abbrev pub invariant-loop-place : goal.invariant-loop-place
invariant-loop-place l =
    (number : ℕ) (decision : Decision) → number < l.place → slice_get l.decisions number ≡ Some decision → IsOfSubject l.subject decision → ⊥
