use Rattle.std.proofs.Common.{Bor, subst}
use Rattle.std.proofs.lemmas.List.Elements.{All-more}
use Rattle.model_core.specs.declared.rule.Rule.{Rule}
use Rattle.model_core.specs.Lawful.{IsLawfulRule}
use Rattle.model_typing.proofs.Telling.{told_false, told_not, told_so}
use Rattle.model_rules.proofs.Taking.{all_taken, not_at}
use Rattle.model_lawful.proofs.preds.are_lawful_each.Goals as goal

pub returns-then-not-branch : goal.returns-then-not-branch
returns-then-not-branch c = told_not _
    (not_at (IsLawfulRule c.args.model.now c.args.number) (λ (rule : Bor Rule). rule.now) c.args.rules.now c.loop-rule.rule-index c.rule-item.result c.loop-rule-test.true c.rule-item.is
    (told_false c.in_ok-is_lawful_as.field-0 _ c.if-not-branch.true c.in_ok-is_lawful_as.ensures))

pub loop-rule-preserved : goal.loop-rule-preserved
loop-rule-preserved c =
    All-more (λ (rule : Bor Rule). IsLawfulRule c.args.model.now c.args.number rule.now) c.args.rules.now c.loop-rule.rule-index c.rule-item.result c.loop-rule-test.true c.loop-rule.invariant
    (subst (λ (rule : Bor Rule). IsLawfulRule c.args.model.now c.args.number rule.now) c.rule-item.is (c.in_ok-is_lawful_as.ensures.0 c.if-not-branch.false))

pub returns : goal.returns
returns c = told_so _
    (all_taken (IsLawfulRule c.args.model.now c.args.number) (λ (rule : Bor Rule). rule.now) c.args.rules.now c.loop-rule.rule-index c.loop-rule-test.false c.loop-rule.invariant)
