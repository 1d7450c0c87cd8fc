use Rattle.std.proofs.Common.{arith}
use Rattle.plan_defs.specs.Valid.{IsTrueInRule}
use Rattle.plan_inventory.proofs.Sweeping.{first_in_rules, more_rules}
use Rattle.plan_check.proofs.items.false_in_rules.Goals as goal

pub loop-rule-preserved : goal.loop-rule-preserved
loop-rule-preserved c = more_rules (IsTrueInRule c.args.model.now c.args.plan.now c.args.token.now) c.loop-rule.rule c.loop-rule.invariant c.in_default.ensures

pub returns-in-Some : goal.returns-in-Some
returns-in-Some c =
    first_in_rules (IsTrueInRule c.args.model.now c.args.plan.now c.args.token.now) c.loop-rule.rule c.in-Some.item c.loop-rule.invariant
    (record { fails = c.in-Some.ensures.is_false; before = c.in-Some.ensures.before })

pub returns : goal.returns
returns c = λ rule item placed entries is_open claim at says.
    let block = is_open.has_block in
    c.loop-rule.invariant rule item (omega (
      arith,
      c.count_rules-rule-end.ensures.below rule block.rule (record { slot = block.slot; has_token = block.has_token; has_rule = block.has_rule }),
      c.loop-rule-test.false,
    )) placed entries is_open claim at says
