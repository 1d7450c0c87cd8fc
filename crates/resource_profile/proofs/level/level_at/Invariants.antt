use Rattle.std.proofs.Common.{◌≡◌, ◌+◌, ◌*◌, ◌≤ℤ◌, pos, neg_ℤ, drop}
use Rattle.resource_profile.specs.Level.{level_at}
use Rattle.resource_profile.proofs.level.level_at.Given as goal

abbrev pub invariant-loop-change : goal.invariant-loop-change
invariant-loop-change l = record {
  rest : level_at (drop l.change-index l.changes) l.level l.instant ≡ level_at l.changes l.fn.initial l.instant;
  low : neg_ℤ (pos (2147483648 + 1000000 * l.change-index)) ≤ℤ l.level;
  high : l.level ≤ℤ pos (2147483648 + 1000000 * l.change-index);
}
