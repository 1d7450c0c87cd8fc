-- No place up to here is the first of a pair.
use Rattle.std.proofs.Common.{ℕ, ◌<◌}
use Rattle.plan_defs.specs.Unordered.{IsPairAt}
use Rattle.timeline_core.proofs.unordered.first_unordered.Given as goal

abbrev pub invariant-loop-one : goal.invariant-loop-one
invariant-loop-one g l =
    (m n : ℕ) → m < l.one → IsPairAt l.model (g.V.View.decisions l.view) (g.V.View.state l.view) m n → ⊥
