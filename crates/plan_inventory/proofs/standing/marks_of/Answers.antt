use Rattle.plan_inventory.proofs.Marking.{marks_no_rule}
use Rattle.plan_inventory.proofs.standing.marks_of.Goals as goal

pub returns-in-None : goal.returns-in-None
returns-in-None c = marks_no_rule c.args.model.now c.args.plan.now c.args.token.now c.args.number _ c.in-None.ensures c.new.ensures
