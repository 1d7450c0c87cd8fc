use Rattle.std.proofs.Common.{w32, to_z, of_z, arith}
use Rattle.std.proofs.lemmas.Int.{ints}
use Rattle.session_replies.proofs.Timing.{edge_put}
use Rattle.session_replies.proofs.edges.put_edge.Goals as goal

pub returns : goal.returns
returns c =
    edge_put c.args.model.now c.args.edge.now (to_z w32 (of_z w32 c.args.edge.now.gap)) c.args.out.now.items c.put_point.new.out.items c.put_number.new.out.items c.put_point-2.new.out.items c.put_point-2.result
    (omega (arith, ints)) c.in_ok-put_point.ensures c.in_ok-put_number.ensures c.put_point-2.ensures
