use Rattle.std.proofs.Common.{◌≤◌, length}
use Rattle.db_store.proofs.Found.{AreFrom}
use Rattle.db_store.proofs.keys.count_before.Given as goal

abbrev pub invariant-loop-kept : goal.invariant-loop-kept
invariant-loop-kept l = record {
  within : l.kept ≤ length l.others.entries;
  rest : AreFrom l.others.entries l.count l.kept;
}

abbrev pub decreases-loop-kept : goal.decreases-loop-kept
decreases-loop-kept l = l.kept
