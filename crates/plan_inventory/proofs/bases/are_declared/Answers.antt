use Rattle.plan_inventory.proofs.Declaring.{no_parts}
use Rattle.plan_inventory.proofs.bases.are_declared.Goals as goal

pub returns-in-None : goal.returns-in-None
returns-in-None c = no_parts c.args.model.now c.args.token.now c.args.values.now c.in-None.ensures
