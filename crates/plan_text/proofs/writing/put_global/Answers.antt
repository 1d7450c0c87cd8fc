use Rattle.std.proofs.Common.{w32, to_z, of_z, arith}
use Rattle.std.proofs.lemmas.Int.{ints}
use Rattle.plan_text.proofs.Globals.{global_value, global_line_put}
use Rattle.plan_text.proofs.writing.put_global.Goals as goal

pub put_global_name-requires : goal.put_global_name-requires
put_global_name-requires c = (c.requires.value.0, c.requires.value.1.0)

pub global_kind-requires : goal.global_kind-requires
global_kind-requires c = (c.requires.value.0, c.requires.value.1.0)

pub put_value-requires-clause-value : goal.put_value-requires-clause-value
put_value-requires-clause-value c = global_value c.args.model.now c.args.number c.global_kind.result c.args.value c.requires.lawful c.requires.value c.global_kind.ensures

pub returns : goal.returns
returns c =
    global_line_put c.args.model.now c.args.number c.global_kind.result c.args.value (to_z w32 (of_z w32 c.args.value)) c.args.out.now.items c.put_keyword.new.out.items c.put_global_name.new.out.items c.put_value.new.out.items c.put_value.result
    (omega (arith, ints)) c.requires.lawful c.global_kind.ensures c.in_ok-put_keyword.ensures c.in_ok-put_global_name.ensures c.put_value.ensures
