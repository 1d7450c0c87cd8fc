use Rattle.std.proofs.Common.{◌≡◌, w32, to_z, of_z, arith}
use Rattle.std.proofs.lemmas.Int.{ints}
use Rattle.plan_values.specs.Keys.{key_token}
use Rattle.plan_inventory.proofs.Sweeping.{local_value_answer, local_valueless}
use Rattle.plan_inventory.proofs.open.has_local_value.Goals as goal

pub returns-in-Some : goal.returns-in-Some
returns-in-Some c =
    let cast : to_z w32 (of_z w32 c.in-Some.value) ≡ c.in-Some.value = omega (arith, ints) in
    local_value_answer c.args.model.now c.args.plan.now c.args.token.now c.args.rule c.args.number c.from.result c.from.ensures (key_token c.of.result) c.in-Some.value (to_z w32 (of_z w32 c.in-Some.value))
    c.is_local_declared.result c.requires c.of.ensures cast c.in-Some.ensures c.is_local_declared.ensures

pub returns-in-None : goal.returns-in-None
returns-in-None c =
    local_valueless c.args.model.now c.args.plan.now c.args.token.now c.args.rule c.args.number c.from.result c.from.ensures (key_token c.of.result) c.of.ensures c.in-None.ensures
