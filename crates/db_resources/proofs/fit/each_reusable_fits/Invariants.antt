use Rattle.std.proofs.Common.{ℕ, ◌<◌, pos}
use Rattle.db_resources.specs.Fits.{FitsReusable}
use Rattle.db_resources.proofs.fit.each_reusable_fits.Given as goal

abbrev pub invariant-loop-number : goal.invariant-loop-number
invariant-loop-number g l = (n : ℕ) → n < l.number → FitsReusable (g.V.View.model l.view) (g.V.View.decisions l.view) (g.V.View.state l.view) (pos n)
