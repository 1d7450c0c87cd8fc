use Rattle.std.proofs.Common.{◌≡◌, take}
use Rattle.model_core.proofs.copy.+copying.Given as goal

abbrev pub invariant-copy_entries-loop-entry : goal.invariant-copy_entries-loop-entry
invariant-copy_entries-loop-entry l = l.copies.items ≡ take l.entry-index l.entries
