use Rattle.std.proofs.Common.{ℕ, ◌<◌}
use Rattle.plan_check.specs.Items.{IsProblemItemTrue}
use Rattle.plan_check.proofs.items.false_in_problem.Given as goal

abbrev pub invariant-loop-number : goal.invariant-loop-number
invariant-loop-number l = (earlier : ℕ) → earlier < l.number → IsProblemItemTrue l.model l.plan earlier
