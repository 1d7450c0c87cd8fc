use Rattle.std.proofs.Common.{◌≡◌, ℕ, ◌<◌, ℤ, Some}
use Rattle.std.specs.Prelude.{slice_get}
use Rattle.model_core.specs.declared.decision.Decision.{Decision}
use Rattle.model_core.specs.declared.decision.Decision.TheVariants.{Specify}
use Rattle.db_refusals.proofs.checks.is_specified.Given as goal

abbrev pub invariant-loop-decision : goal.invariant-loop-decision
invariant-loop-decision l =
    (place : ℕ) (other : Decision) → place < l.decision-index → slice_get l.decisions place ≡ Some other → (value : ℤ) → other ≡ Specify l.name value → ⊥
