use Rattle.std.proofs.Common.{◌≡◌, ℕ, ◌<◌, ℤ, Some}
use Rattle.std.specs.Prelude.{slice_get}
use Rattle.eu_name.specs.declared.name.VarName.TheVariants.{Token}
use Rattle.model_core.specs.declared.decision.Decision.TheVariants.{Specify}
use Rattle.db_edges.proofs.lasting.value_given.Given as goal

abbrev pub invariant-loop-decision : goal.invariant-loop-decision
invariant-loop-decision l = (n : ℕ) → n < l.decision-index → (value : ℤ) → slice_get l.decisions n ≡ Some (Specify (Token l.token l.part) value) → ⊥
