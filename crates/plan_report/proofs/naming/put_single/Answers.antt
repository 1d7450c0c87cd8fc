use Rattle.plan_report.proofs.Placing.{single_put}
use Rattle.plan_report.proofs.naming.put_single.Goals as goal

pub returns : goal.returns
returns c =
    single_put c.args.model.now c.args.name.now c.args.out.now.items c.put_variable.new.out.items c.put_variable.result c.requires.lawful c.requires.alike c.put_variable.ensures
