use Rattle.plan_values.proofs.Ruling.{no_items}
use Rattle.plan_values.proofs.rules.false_item.Goals as goal

pub returns-in-None : goal.returns-in-None
returns-in-None c = no_items c.args.model.now c.args.token.now c.args.number c.args.plan.now c.in-None.ensures
