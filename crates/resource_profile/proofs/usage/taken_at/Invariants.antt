use Rattle.std.proofs.Common.{◌≡◌, ◌*◌, ◌≤ℤ◌, pos, ◌+ℤ◌, neg_ℤ, drop}
use Rattle.resource_profile.specs.Usage.{taken_at}
use Rattle.resource_profile.proofs.usage.taken_at.Given as goal

abbrev pub invariant-loop-usage : goal.invariant-loop-usage
invariant-loop-usage l = record {
  rest : l.taken +ℤ taken_at (drop l.usage-index l.uses) l.instant ≡ taken_at l.uses l.instant;
  low : neg_ℤ (pos (2147483648 * l.usage-index)) ≤ℤ l.taken;
  high : l.taken ≤ℤ pos (2147483648 * l.usage-index);
}
