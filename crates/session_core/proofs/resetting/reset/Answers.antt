use Rattle.session_core.specs.Asking.{reset_command}
use Rattle.session_core.proofs.resetting.reset.Goals as goal

pub returns-in-Ok : goal.returns-in-Ok
returns-in-Ok c = c.reset_found.ensures (reset_command c.args.asked.now) c.in-Ok.ensures.found
