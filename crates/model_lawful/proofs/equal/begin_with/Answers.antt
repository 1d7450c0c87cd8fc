use Rattle.model_typing.proofs.Telling.{told_so}
use Rattle.model_lawful.proofs.Fronts.{begins_all}
use Rattle.model_lawful.proofs.equal.begin_with.Goals as goal

pub returns : goal.returns
returns c = told_so _ (begins_all c.args.variables.now c.args.front.now c.loop-expected.left.now c.loop-expected.expected-index c.loop-expected.invariant c.loop-expected-test.false)
