use Rattle.nddl_symbols.specs.Finding.{earliest_fault}
use Rattle.nddl_unroll.specs.Limits.{limits_passed, no_rules}
use Rattle.nddl_unroll.proofs.CountingSteps.{limits_step}
use Rattle.nddl_unroll.proofs.limits.note_limits.Goals as goal

pub loop-weighed-preserved : goal.loop-weighed-preserved
loop-weighed-preserved c =
    limits_step c.args.rules.now c.loop-weighed.weighed-index _ c.loop-weighed.pred c.loop-weighed.tally c.tally_of-before.result
    c.with_rule-tally.result c.loop-weighed.first c.note_rule_limits.new.first
    (earliest_fault c.args.first.now (limits_passed 0 no_rules c.args.rules.now)) c.loop-weighed-test.true
    c.tally_of-before.ensures c.with_rule-tally.ensures c.note_rule_limits.ensures c.loop-weighed.invariant
