use Rattle.std.proofs.Common.{◌≡◌, w32, to_z, of_z, arith}
use Rattle.std.proofs.lemmas.Int.{ints}
use Rattle.plan_values.proofs.DeclaredValues.{global_declared_answer, no_global_there}
use Rattle.plan_values.proofs.declared.is_global_declared.Goals as goal

pub returns-in-Some : goal.returns-in-Some
returns-in-Some c =
    let cast : to_z w32 (of_z w32 c.args.value) ≡ c.args.value = omega (arith, ints) in
    global_declared_answer c.args.model.now c.args.number c.in-Some.variable.now c.args.value (to_z w32 (of_z w32 c.args.value)) c.base_has.result
    c.in-Some.ensures cast c.base_has.ensures

pub returns-in-None : goal.returns-in-None
returns-in-None c = no_global_there c.args.model.now c.args.number c.args.value c.in-None.ensures
