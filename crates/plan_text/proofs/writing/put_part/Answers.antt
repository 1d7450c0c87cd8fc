use Rattle.std.proofs.Common.{w32, to_z, of_z, arith}
use Rattle.std.proofs.lemmas.Int.{ints}
use Rattle.plan_text.proofs.Putting.{part_put}
use Rattle.plan_text.proofs.writing.put_part.Goals as goal

pub returns : goal.returns
returns c =
    part_put c.args.model.now c.args.label.now c.args.kind c.args.value (to_z w32 (of_z w32 c.args.value)) c.args.out.now.items c.put_word.new.out.items c.put_value.new.out.items c.put_value.result (omega (arith, ints))
    c.requires.label c.in_ok-put_word.ensures c.put_value.ensures
