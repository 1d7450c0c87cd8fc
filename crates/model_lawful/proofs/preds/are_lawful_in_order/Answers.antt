use Rattle.model_lawful.specs.Preds.{HasAllLawful}
use Rattle.model_typing.proofs.Telling.{told_false, told_not, told_so}
use Rattle.model_lawful.proofs.Counting.{below_more_items, below_not, below_whole}
use Rattle.model_lawful.proofs.preds.are_lawful_in_order.Goals as goal

pub returns-then-not-branch : goal.returns-then-not-branch
returns-then-not-branch c = told_not _
    (below_not (HasAllLawful c.args.model.now) c.args.preds.now c.loop-number.number c.index-preds-number.result c.loop-number-test.true c.index-preds-number.is
    (told_false c.in_ok-has_all.field-0 _ c.if-not-branch.true c.in_ok-has_all.ensures))

pub loop-number-preserved : goal.loop-number-preserved
loop-number-preserved c =
    below_more_items (HasAllLawful c.args.model.now) c.args.preds.now c.loop-number.number c.index-preds-number.result c.loop-number-test.true c.index-preds-number.is
    (c.in_ok-has_all.ensures.0 c.if-not-branch.false) c.loop-number.invariant

pub returns : goal.returns
returns c = told_so _ (below_whole (HasAllLawful c.args.model.now) c.args.preds.now c.loop-number.number c.loop-number-test.false c.loop-number.invariant)
