-- No place up to here has such a token.
use Rattle.std.proofs.Common.{ℕ, ◌<◌}
use Rattle.plan_defs.specs.Unordered.{IsPairAt}
use Rattle.timeline_core.proofs.unordered.partner_on.Given as goal

abbrev pub invariant-loop-other : goal.invariant-loop-other
invariant-loop-other g l =
    (n : ℕ) → n < l.other → IsPairAt l.model (g.V.View.decisions l.view) (g.V.View.state l.view) l.one n → ⊥
