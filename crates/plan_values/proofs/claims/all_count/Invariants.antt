use Rattle.std.proofs.Common.{◌≡◌, ℕ, ◌<◌, Some}
use Rattle.std.specs.Prelude.{slice_get}
use Rattle.model_core.specs.declared.item.Term.{Term}
use Rattle.plan_values.specs.Meanings.{context_of, CountsAt}
use Rattle.plan_values.proofs.claims.all_count.Given as goal

abbrev pub invariant-loop-term : goal.invariant-loop-term
invariant-loop-term l = (place : ℕ) (term : Term) → place < l.term-index → slice_get l.terms place ≡ Some term → CountsAt l.model l.plan (context_of l.at) term
