use Rattle.law_states.proofs.Owning as owning
use Rattle.law_states.proofs.plans.valid_plans_have_states.Goals as goal

pub returns-clause-states : goal.returns-clause-states
returns-clause-states c = owning.plan_state

pub returns-clause-closed : goal.returns-clause-closed
returns-clause-closed c = owning.plan_closed
