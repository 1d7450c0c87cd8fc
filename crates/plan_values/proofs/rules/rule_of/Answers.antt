use Rattle.plan_values.proofs.Matching.{match_option}
use Rattle.plan_values.proofs.Ruling.{rule_for, no_rule}
use Rattle.plan_values.proofs.rules.rule_of.Goals as goal

pub returns-in-Some : goal.returns-in-Some
returns-in-Some c =
    match_option c.rule_of.result _ _ _ _ (no_rule c.args.model.now c.args.token.now c.args.number c.in-Some.pred c.in-Some.ensures)
    (λ rule. rule_for c.args.model.now c.args.token.now c.args.number c.in-Some.pred rule.now c.in-Some.ensures) c.rule_of.ensures

pub returns-in-None : goal.returns-in-None
returns-in-None c = λ rule is. c.in-None.ensures is.slot is.has_token
