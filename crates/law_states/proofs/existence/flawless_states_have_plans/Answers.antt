use Rattle.law_states.proofs.Planning as planning
use Rattle.law_states.proofs.existence.flawless_states_have_plans.Goals as goal

pub returns : goal.returns
returns c = planning.flawless_states_have_plans
