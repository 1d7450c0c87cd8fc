use Rattle.session_core.specs.Asking.{asked_command}
use Rattle.session_core.proofs.Keeping.{model_stays}
use Rattle.session_core.proofs.editor.answer_asked.Goals as goal

pub returns-in-Ok : goal.returns-in-Ok
returns-in-Ok c = record {
  answer = (c.in-Ok.ensures, c.goes_on_behind-goes_on.ensures);
  memory = tt;
  model = model_stays c.args.db.now.database c.carry_out.new.db.database (asked_command c.args.asked.now) c.carry_out.result c.carry_out.ensures;
}

pub returns-in-Err : goal.returns-in-Err
returns-in-Err c = record {
  answer = tt;
  memory = c.in-Err.ensures;
  model = model_stays c.args.db.now.database c.carry_out.new.db.database (asked_command c.args.asked.now) c.carry_out.result c.carry_out.ensures;
}
