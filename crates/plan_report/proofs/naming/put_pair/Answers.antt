use Rattle.plan_report.proofs.Placing.{pair_put}
use Rattle.plan_report.proofs.naming.put_pair.Goals as goal

pub returns : goal.returns
returns c =
    pair_put c.args.model.now c.args.plan.now c.args.one c.args.other c.args.out.now.items c.put_line_at.new.out.items c.put_line_at-2.new.out.items c.put_line_at-2.result c.in_ok-put_line_at.ensures c.put_line_at-2.ensures
