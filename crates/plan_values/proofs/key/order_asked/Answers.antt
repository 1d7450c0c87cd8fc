use Rattle.plan_values.specs.Keys.{step_of}
use Rattle.plan_values.proofs.Ranking.{asked_ranked}
use Rattle.plan_values.proofs.key.order_asked.Goals as goal

pub returns-in-Some : goal.returns-in-Some
returns-in-Some c =
    asked_ranked c.args.root c.args.other c.args.steps.now c.args.others.now c.in-Some.front.now (step_of c.args.ask) c.in-Some.last.now _ _ _
    c.in-Some.ensures.cases.0 c.order_parts-by_front.ensures c.order_steps-by_last.ensures c.then.ensures
