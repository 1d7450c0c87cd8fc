use Rattle.plan_check.proofs.Itemizing.{problem_least}
use Rattle.plan_check.proofs.items.broken_item.Goals as goal

pub returns-in-Some : goal.returns-in-Some
returns-in-Some c = problem_least c.args.model.now c.args.plan.now c.in-Some.number c.in-Some.ensures
