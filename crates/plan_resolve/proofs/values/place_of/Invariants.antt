use Rattle.std.proofs.Common.{◌≡◌, ℕ, ◌<◌, Some, slice_get}
use Rattle.plan_resolve.proofs.values.place_of.Given as goal

-- none of the names before this one is the word
abbrev pub invariant-loop-place : goal.invariant-loop-place
invariant-loop-place l = (place : ℕ) → place < l.place → slice_get l.names place ≡ Some l.word → ⊥
