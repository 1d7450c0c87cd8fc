use Rattle.std.proofs.Common.{◌≡◌, drop}
use Rattle.nddl_symbols.specs.Finding.{earliest_fault}
use Rattle.nddl_unroll.specs.Limits.{limits_passed, no_rules}
use Rattle.nddl_unroll.proofs.limits.note_limits.Given as goal

-- the earliest so far and of the rules that are left is the earliest of all
abbrev pub invariant-loop-weighed : goal.invariant-loop-weighed
invariant-loop-weighed l =
    earliest_fault l.first (limits_passed l.pred l.tally (drop l.weighed-index l.rules))
    ≡ earliest_fault l.fn.first (limits_passed 0 no_rules l.rules)
