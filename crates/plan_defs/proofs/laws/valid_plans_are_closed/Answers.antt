use Rattle.plan_defs.proofs.Completing.{closed_state}
use Rattle.plan_defs.proofs.laws.valid_plans_are_closed.Goals as goal

pub returns : goal.returns
returns c = closed_state
