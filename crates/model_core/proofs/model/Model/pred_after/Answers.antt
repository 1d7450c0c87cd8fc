use Rattle.model_core.proofs.Rules.{on_more, on_back, on_nowhere, on_end}
use Rattle.model_core.proofs.model.Model.pred_after.Goals as goal

pub returns-in_err-pred : goal.returns-in_err-pred
returns-in_err-pred c =
    rw c.from_residual.ensures (λ reached all. on_nowhere c.args.self.now c.loop-step.pred c.args.steps.now c.loop-step.step-index _ reached c.loop-step-test.true c.in_err-pred.ensures ((c.loop-step.invariant reached).1 all))

pub loop-step-preserved : goal.loop-step-preserved
loop-step-preserved c = λ reached.
    let model = c.args.self.now in (
      λ on. (c.loop-step.invariant reached).0 (on_back model c.loop-step.pred c.in_ok-pred.pred c.args.steps.now c.loop-step.step-index _ reached c.loop-step-test.true c.in_ok-pred.ensures on),
      λ all. on_more model c.loop-step.pred c.in_ok-pred.pred c.args.steps.now c.loop-step.step-index _ reached c.loop-step-test.true c.in_ok-pred.ensures ((c.loop-step.invariant reached).1 all),
    )

pub returns : goal.returns
returns c = (c.loop-step.invariant c.loop-step.pred).0 (on_end c.args.self.now c.loop-step.pred c.args.steps.now c.loop-step.step-index c.loop-step-test.false)
