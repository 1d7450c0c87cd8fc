use Rattle.law_states.proofs.Uniting.{one_plan}
use Rattle.law_states.proofs.flawless.a_state_has_one_plan.Goals as goal

pub returns : goal.returns
returns c = one_plan
