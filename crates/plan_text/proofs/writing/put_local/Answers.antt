use Rattle.std.proofs.Common.{w32, to_z, of_z, arith}
use Rattle.std.proofs.lemmas.Int.{ints}
use Rattle.plan_text.proofs.Lining.{local_put}
use Rattle.plan_text.proofs.Stepping.{local_base}
use Rattle.plan_text.proofs.writing.put_local.Goals as goal

pub put_variable-requires : goal.put_variable-requires
put_variable-requires c = local_base c.args.model.now c.args.name.now c.args.value c.requires.line

pub returns : goal.returns
returns c =
    local_put c.args.model.now c.args.name.now c.args.value (to_z w32 (of_z w32 c.args.value)) c.in_ok-put_variable.ensures.0 c.args.out.now.items c.put_keyword.new.out.items c.put_variable.new.out.items c.put_local_value.new.out.items c.put_local_value.result
    (omega (arith, ints)) c.requires.lawful c.in_ok-put_keyword.ensures c.in_ok-put_variable.ensures.1.1 c.in_ok-put_variable.ensures.1.0 c.put_local_value.ensures
