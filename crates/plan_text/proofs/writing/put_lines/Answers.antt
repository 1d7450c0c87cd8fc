use Rattle.eu_name.proofs.Orders.{var_order}
use Rattle.plan_text.proofs.Stepping.{line_step}
use Rattle.plan_text.proofs.writing.put_lines.Goals as goal

pub loop-line-preserved : goal.loop-line-preserved
loop-line-preserved c =
    line_step var_order c.args.model.now c.args.plan.now c.as_slice-line-items.result.now c.loop-line.line-index c.line-item.result c.args.out.now.items c.loop-line.out.items c.put_line.new.out.items c.requires.plan.lines c.requires.plan.order
    c.as_slice-line-items.ensures c.loop-line-test.true c.line-item.is c.in_ok-put_line.ensures c.loop-line.invariant
