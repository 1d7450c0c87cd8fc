use Rattle.std.proofs.Common.{◌-◌, ◌≤◌, length, ◌<ℤ◌}
use Rattle.std.specs.List.{AllWithin}
use Rattle.domain_core.proofs.members.skip_below.Given as goal

abbrev pub invariant-loop-place : goal.invariant-loop-place
invariant-loop-place l = record {
  from : l.start ≤ l.place;
  bound : l.place ≤ length l.numbers;
  below : AllWithin (λ number. number <ℤ l.value) l.numbers l.start l.place;
}

abbrev pub decreases-loop-place : goal.decreases-loop-place
decreases-loop-place l = length l.numbers - l.place
