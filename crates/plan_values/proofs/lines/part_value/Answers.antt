use Rattle.plan_values.specs.Keys.{key_token}
use Rattle.plan_values.proofs.Naming.{part_found, no_part}
use Rattle.plan_values.proofs.lines.part_value.Goals as goal

pub returns-in-Some : goal.returns-in-Some
returns-in-Some c = part_found c.args.plan.now c.requires (key_token c.args.token) c.args.part c.in-Some.values.now c.value_in.result c.in-Some.ensures c.value_in.ensures

pub returns-in-None : goal.returns-in-None
returns-in-None c = no_part c.args.plan.now c.requires (key_token c.args.token) c.args.part c.in-None.ensures
