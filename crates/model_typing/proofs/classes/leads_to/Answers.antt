use Rattle.model_typing.proofs.Telling.{told_not, told_so}
use Rattle.model_typing.proofs.Under.{self_under, under_more, under_less, under_none}
use Rattle.model_typing.proofs.Upward.{fewer_above}
use Rattle.model_typing.proofs.classes.leads_to.Goals as goal

pub loop-next-preserved : goal.loop-next-preserved
loop-next-preserved c = (
  λ under. c.loop-next.invariant.0 (under_more c.args.model.now c.loop-next.next c.in-Some.parent c.args.ancestor c.in-Some.ensures under),
  λ under. under_less c.args.model.now c.loop-next.next c.in-Some.parent c.args.ancestor c.in-Some.ensures c.loop-next-test.true (c.loop-next.invariant.1 under),
)

pub loop-next-smaller : goal.loop-next-smaller
loop-next-smaller c = fewer_above c.args.model.now c.args.parents.now c.requires c.loop-next.next c.in-Some.parent c.in-Some.ensures

pub returns-in-None : goal.returns-in-None
returns-in-None c = told_not _ (λ under. under_none c.args.model.now c.loop-next.next c.args.ancestor c.in-None.ensures c.loop-next-test.true (c.loop-next.invariant.1 under))

pub returns : goal.returns
returns c = told_so _ (c.loop-next.invariant.0 (self_under c.args.model.now c.loop-next.next c.args.ancestor c.loop-next-test.false))
