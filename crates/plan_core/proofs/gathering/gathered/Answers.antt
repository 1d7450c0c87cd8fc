use Rattle.plan_core.proofs.Making.{plan_gathers, plan_few}
use Rattle.plan_core.proofs.gathering.gathered.Goals as goal

pub returns-clause-gathers : goal.returns-clause-gathers
returns-clause-gathers c =
    plan_gathers c.args.said.items c.sort.new.said.items c.take_all-taken.result c.take_all-taken.new.globals.items c.take_all-taken.new.lines.items c.plan_of.result
    c.sort.ensures.same c.sort.ensures.order c.take_all-taken.ensures.globals c.take_all-taken.ensures.lines c.plan_of.ensures

pub returns-clause-few : goal.returns-clause-few
returns-clause-few c =
    plan_few c.args.said.items c.sort.new.said.items c.take_all-taken.result c.take_all-taken.new.globals.items c.take_all-taken.new.lines.items c.plan_of.result
    c.sort.ensures.same c.take_all-taken.ensures.lines c.plan_of.ensures
