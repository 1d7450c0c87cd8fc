use Rattle.std.proofs.Common.{refl}
use Rattle.model_typing.proofs.Telling.{never, ok_as, told_not}
use Rattle.model_rules.specs.Rules.{HasLawfulParts, StandsNested}
use Rattle.model_core.specs.Lawful.{IsLawfulRule}
use Rattle.model_rules.proofs.Judging.{rule_lawful, lawful_parts, lawful_nested}
use Rattle.model_rules.proofs.rules.is_lawful_rule.Goals as goal

pub returns-then-not-has_lawful_parts : goal.returns-then-not-has_lawful_parts
returns-then-not-has_lawful_parts c = told_not _ (λ lawful.
    never (HasLawfulParts c.args.judge.model.now c.args.judge.rule.now) c.if-not-has_lawful_parts.ensures (lawful_parts c.args.judge.model.now c.args.judge.pred c.args.judge.rule.now lawful))

pub returns : goal.returns
returns c =
    ok_as c.stands_nested.result (StandsNested c.args.judge.model.now c.args.judge.pred c.args.judge.rule.now) (IsLawfulRule c.args.judge.model.now c.args.judge.pred c.args.judge.rule.now)
    (rule_lawful c.args.judge.model.now c.args.judge.pred c.args.judge.rule.now (c.if-not-has_lawful_parts.ensures.0 refl))
    (lawful_nested c.args.judge.model.now c.args.judge.pred c.args.judge.rule.now) c.stands_nested.ensures
