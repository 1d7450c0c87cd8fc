use Rattle.std.proofs.Common.{◌≡◌, ℕ, ◌<◌, Some}
use Rattle.std.specs.Prelude.{slice_get}
use Rattle.eu_name.specs.declared.name.TokenName.{TokenName as Name}
use Rattle.model_core.specs.declared.decision.Decision.TheVariants.{Merge}
use Rattle.db_edges.proofs.points.merged_into.Given as goal

abbrev pub invariant-loop-decision : goal.invariant-loop-decision
invariant-loop-decision l = (n : ℕ) → n < l.decision-index → (target : Name) → slice_get l.decisions n ≡ Some (Merge l.token target) → ⊥
