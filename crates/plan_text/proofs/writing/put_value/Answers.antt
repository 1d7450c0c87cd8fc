use Rattle.std.proofs.Common.{w32, to_z, of_z, arith}
use Rattle.std.proofs.lemmas.Int.{ints}
use Rattle.plan_text.proofs.Putting.{value_put}
use Rattle.plan_text.proofs.writing.put_value.Goals as goal

pub returns : goal.returns
returns c =
    value_put c.args.model.now c.args.kind c.args.value (to_z w32 (of_z w32 c.args.value)) c.args.out.now.items c.put_shown.new.out.items c.put_shown.result (omega (arith, ints)) c.requires.lawful c.put_shown.ensures
