use Rattle.std.proofs.Common.{arith}
use Rattle.plan_inventory.specs.Asking.{IsSlotKept}
use Rattle.plan_inventory.proofs.Sweeping.{first_in_rules, more_rules}
use Rattle.plan_inventory.proofs.open.unkept_slot.Goals as goal

pub loop-rule-preserved : goal.loop-rule-preserved
loop-rule-preserved c = more_rules (IsSlotKept c.args.model.now c.args.plan.now c.args.token.now) c.loop-rule.rule c.loop-rule.invariant c.in_default.ensures

pub returns-in-Some : goal.returns-in-Some
returns-in-Some c = first_in_rules (IsSlotKept c.args.model.now c.args.plan.now c.args.token.now) c.loop-rule.rule c.in-Some.number c.loop-rule.invariant c.in-Some.ensures

pub returns : goal.returns
returns c = λ rule number stands.
    c.loop-rule.invariant rule number (omega (
      arith,
      c.count_rules-rule-end.ensures.below rule stands.rule (record { slot = stands.slot; has_token = stands.has_token; has_rule = stands.has_rule }),
      c.loop-rule-test.false,
    )) stands
