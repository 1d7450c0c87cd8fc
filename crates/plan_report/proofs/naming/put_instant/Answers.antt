use Rattle.std.proofs.Common.{w32, to_z, of_z, arith}
use Rattle.std.proofs.lemmas.Int.{ints}
use Rattle.plan_report.proofs.Placing.{instant_put}
use Rattle.plan_report.proofs.naming.put_instant.Goals as goal

pub returns : goal.returns
returns c =
    instant_put c.args.model.now c.args.number c.args.at (to_z w32 (of_z w32 c.args.at)) c.as_slice.result.now c.index-as_slice-number.result c.as_bytes.result.now
    c.args.out.now.items c.put_word.new.out.items c.put_number.new.out.items c.put_number.result c.requires c.as_slice.ensures c.index-as_slice-number.is c.as_bytes.ensures
    (omega (arith, ints)) c.in_ok-put_word.ensures c.put_number.ensures
