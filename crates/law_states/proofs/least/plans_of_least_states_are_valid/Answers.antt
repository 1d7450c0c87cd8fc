use Rattle.law_states.proofs.Founding as founding
use Rattle.law_states.proofs.least.plans_of_least_states_are_valid.Goals as goal

pub returns : goal.returns
returns c = founding.plan_is_valid
