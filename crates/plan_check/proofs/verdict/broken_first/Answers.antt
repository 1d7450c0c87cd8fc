use Rattle.plan_inventory.proofs.Chaining.{orderly_plan}
use Rattle.plan_check.proofs.verdict.broken_first.Goals as goal

pub broken_behind-requires-clause-orderly : goal.broken_behind-requires-clause-orderly
broken_behind-requires-clause-orderly c = orderly_plan c.args.model.now c.args.plan.now c.requires.is_plan
