use Rattle.std.proofs.Common.{ℕ, ◌<◌}
use Rattle.plan_check.specs.Turns.{IsPairKept}
use Rattle.plan_check.proofs.timelines.broken_pair.Given as goal

abbrev pub invariant-loop-first : goal.invariant-loop-first
invariant-loop-first l = (earlier later : ℕ) → earlier < l.first → IsPairKept l.model l.plan earlier later
