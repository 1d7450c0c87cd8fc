use Rattle.std.proofs.Common.{ℕ, ℤ, ◌<◌, true}
use Rattle.domain_core.specs.Domain.{IsNth}
use Rattle.narrow_core.proofs.passing.all_tested.Given as goal

abbrev pub invariant-loop-place : goal.invariant-loop-place
invariant-loop-place g l = (k : ℕ) (value : ℤ) → k < l.place → IsNth l.domain k value → goal.F-post g l.passes value true
