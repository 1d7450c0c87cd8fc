use Rattle.std.proofs.Common.{w32, to_z, of_z, arith}
use Rattle.std.proofs.lemmas.Int.{ints}
use Rattle.plan_text.proofs.LocalValues.{local_has, local_is, local_value_put}
use Rattle.plan_text.proofs.writing.put_local_value.Goals as goal

pub local_kind-kind-requires : goal.local_kind-kind-requires
local_kind-kind-requires c = local_has c.args.model.now c.args.name.now c.in-Local.token c.in-Local.rule c.in-Local.number c.args.value c.in-Local.is c.requires.line

pub put_value-requires-clause-value : goal.put_value-requires-clause-value
put_value-requires-clause-value c =
    local_is c.args.model.now c.args.name.now c.in-Local.token c.in-Local.rule c.in-Local.number c.args.value c.local_kind-kind.result c.requires.lawful c.in-Local.is c.requires.line c.local_kind-kind.ensures

pub returns : goal.returns
returns c =
    local_value_put c.args.model.now c.args.name.now c.in-Local.token c.in-Local.rule c.in-Local.number c.args.value (to_z w32 (of_z w32 c.args.value)) c.local_kind-kind.result c.args.out.now.items c.put_value.new.out.items c.put_value.result
    (omega (arith, ints)) c.in-Local.is c.local_kind-kind.ensures c.put_value.ensures
