use Rattle.db_edges.specs.declared.edge.Point.TheVariants as points
use Rattle.session_replies.proofs.Timing.{start_base, end_base, origin_put, point_put}
use Rattle.session_replies.proofs.edges.put_point.Goals as goal

pub put_part-requires-clause-there : goal.put_part-requires-clause-there
put_part-requires-clause-there c = start_base c.args.model.now c.args.point.now c.in-Start.token c.in-Start.is c.requires.writable

pub put_part-requires-in-End-clause-there : goal.put_part-requires-in-End-clause-there
put_part-requires-in-End-clause-there c = end_base c.args.model.now c.args.point.now c.in-End.token c.in-End.is c.requires.writable

pub returns-in-Origin : goal.returns-in-Origin
returns-in-Origin c = origin_put c.args.model.now c.args.point.now c.args.gap.now c.args.out.now.items c.put_word.new.out.items c.put_word.result c.in-Origin.is c.put_word.ensures

pub returns-in-Start : goal.returns-in-Start
returns-in-Start c =
    point_put c.args.model.now c.args.point.now (points.Start c.in-Start.token) c.args.gap.now c.args.out.now.items c.put_part.new.out.items c.put_part.result c.in-Start.is c.put_part.ensures

pub returns-in-End : goal.returns-in-End
returns-in-End c =
    point_put c.args.model.now c.args.point.now (points.End c.in-End.token) c.args.gap.now c.args.out.now.items c.put_part-in-End.new.out.items c.put_part-in-End.result c.in-End.is c.put_part-in-End.ensures
