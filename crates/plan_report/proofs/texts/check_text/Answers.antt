use Rattle.std.proofs.Common.{Ok, Err}
use Rattle.plan_report.proofs.Telling.{text_answered}
use Rattle.plan_report.proofs.texts.check_text.Goals as goal

pub returns-in-Ok : goal.returns-in-Ok
returns-in-Ok c = text_answered c.args.model.now c.args.text.now (Ok c.in-Ok.plan) c.check_plan.result c.in-Ok.ensures.reads c.check_plan.ensures

pub returns-in-Err : goal.returns-in-Err
returns-in-Err c = text_answered c.args.model.now c.args.text.now (Err c.in-Err.fault) c.faulty.result c.in-Err.ensures.reads c.faulty.ensures
