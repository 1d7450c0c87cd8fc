use Rattle.std.proofs.Common.{◌≡◌, ℕ, ◌<◌, Some}
use Rattle.std.specs.Prelude.{slice_get}
use Rattle.model_core.specs.declared.rule.Entry.{Entry}
use Rattle.db_resources.specs.Completeness.{IsCertainEntry}
use Rattle.db_resources.proofs.complete.are_certain_entries.Given as goal

abbrev pub invariant-loop-place : goal.invariant-loop-place
invariant-loop-place l = (n : ℕ) → n < l.place → (entry : Entry) → slice_get l.entries n ≡ Some entry → IsCertainEntry l.model l.store l.block n entry
