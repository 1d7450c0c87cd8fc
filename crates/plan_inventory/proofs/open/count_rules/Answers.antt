use Rattle.std.proofs.Common.{arith}
use Rattle.plan_inventory.proofs.Sweeping.{rule_below, rule_there, few_rules, no_pred_rule}
use Rattle.plan_inventory.proofs.open.count_rules.Goals as goal

pub overflow_cast-result : goal.overflow_cast-result
overflow_cast-result c = omega (arith, few_rules c.args.model.now c.requires c.in-Some.pred c.in-Some-pred_in.found.now c.in-Some-pred_in.ensures, c.len.ensures)

pub returns-in-Some-pred_in-clause-below : goal.returns-in-Some-pred_in-clause-below
returns-in-Some-pred_in-clause-below c = λ number rule is.
    omega (arith, rule_below c.args.model.now c.args.token.now c.in-Some.pred c.in-Some.ensures c.in-Some-pred_in.found.now c.in-Some-pred_in.ensures number rule is, c.len.ensures)

pub returns-in-Some-pred_in-clause-there : goal.returns-in-Some-pred_in-clause-there
returns-in-Some-pred_in-clause-there c = λ number less.
    rule_there c.args.model.now c.requires c.in-Some.pred c.in-Some-pred_in.found.now c.in-Some-pred_in.ensures c.args.token.now c.in-Some.ensures number (omega (arith, less, c.len.ensures))

pub returns-in-None-pred_in-clause-below : goal.returns-in-None-pred_in-clause-below
returns-in-None-pred_in-clause-below c = λ number rule is. absurd (no_pred_rule c.args.model.now c.args.token.now c.in-Some.pred number rule c.in-Some.ensures c.in-None-pred_in.ensures is)

pub returns-in-None-clause-below : goal.returns-in-None-clause-below
returns-in-None-clause-below c = λ number rule is. absurd (c.in-None.ensures is.slot is.has_token)
