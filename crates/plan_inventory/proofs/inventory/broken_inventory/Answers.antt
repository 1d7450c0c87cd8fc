use Rattle.plan_inventory.proofs.Chaining.{orderly_plan}
use Rattle.plan_inventory.proofs.inventory.broken_inventory.Goals as goal

pub broken_in_order-requires-clause-orderly : goal.broken_in_order-requires-clause-orderly
broken_in_order-requires-clause-orderly c = orderly_plan c.args.model.now c.args.plan.now c.requires.is_plan
