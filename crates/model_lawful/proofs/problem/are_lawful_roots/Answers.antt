use Rattle.std.proofs.Common.{refl}
use Rattle.model_core.specs.Lawful.{IsLawfulRoot}
use Rattle.model_typing.proofs.Telling.{never, told_not, told_so}
use Rattle.model_lawful.proofs.Counting.{all_more, all_not, all_whole}
use Rattle.model_lawful.proofs.problem.are_lawful_roots.Goals as goal

pub returns-then-not-is_lawful_root : goal.returns-then-not-is_lawful_root
returns-then-not-is_lawful_root c = told_not _ (all_not (IsLawfulRoot c.args.model.now) c.args.roots.now c.loop-root.root-index c.root-item.result c.loop-root-test.true c.root-item.is (never _ c.if-not-is_lawful_root.ensures))

pub loop-root-preserved : goal.loop-root-preserved
loop-root-preserved c = all_more (IsLawfulRoot c.args.model.now) c.args.roots.now c.loop-root.root-index c.root-item.result c.loop-root-test.true c.root-item.is (c.if-not-is_lawful_root.ensures.0 refl) c.loop-root.invariant

pub returns : goal.returns
returns c = told_so _ (all_whole (IsLawfulRoot c.args.model.now) c.args.roots.now c.loop-root.root-index c.loop-root-test.false c.loop-root.invariant)
