use Rattle.plan_report.proofs.Placing.{item_put}
use Rattle.plan_report.proofs.naming.put_item.Goals as goal

pub returns : goal.returns
returns c =
    item_put c.args.model.now c.args.plan.now c.args.line c.args.rule c.from-number.result c.args.item c.args.out.now.items c.put_line_at.new.out.items c.put_count.new.out.items c.put_count-2.new.out.items c.put_count-2.result
    c.from-number.ensures c.in_ok-put_line_at.ensures c.in_ok-put_count.ensures c.put_count-2.ensures
