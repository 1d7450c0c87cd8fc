use Rattle.std.proofs.Common.{ℕ, ◌<◌}
use Rattle.plan_defs.specs.Valid.{IsTrueInRule}
use Rattle.plan_check.proofs.items.false_in_rules.Given as goal

abbrev pub invariant-loop-rule : goal.invariant-loop-rule
invariant-loop-rule l = (other earlier : ℕ) → other < l.rule → IsTrueInRule l.model l.plan l.token other earlier
