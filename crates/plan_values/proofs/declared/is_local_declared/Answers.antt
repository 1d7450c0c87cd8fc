use Rattle.std.proofs.Common.{◌≡◌, w32, to_z, of_z, arith}
use Rattle.std.proofs.lemmas.Int.{ints}
use Rattle.plan_values.proofs.DeclaredValues.{local_declared_answer, no_local_there, no_rule_there}
use Rattle.plan_values.proofs.declared.is_local_declared.Goals as goal

pub returns-in-Some-local_in : goal.returns-in-Some-local_in
returns-in-Some-local_in c =
    let cast : to_z w32 (of_z w32 c.args.value) ≡ c.args.value = omega (arith, ints) in
    local_declared_answer c.args.model.now c.args.token.now c.args.rule c.args.number c.in-Some.found.now c.in-Some-local_in.variable.now c.args.value (to_z w32 (of_z w32 c.args.value)) c.base_has.result
    c.in-Some.ensures c.in-Some-local_in.ensures cast c.base_has.ensures

pub returns-in-None-local_in : goal.returns-in-None-local_in
returns-in-None-local_in c =
    no_local_there c.args.model.now c.args.token.now c.args.rule c.args.number c.in-Some.found.now c.args.value c.in-Some.ensures c.in-None-local_in.ensures

pub returns-in-None : goal.returns-in-None
returns-in-None c = no_rule_there c.args.model.now c.args.token.now c.args.rule c.args.number c.args.value c.in-None.ensures
