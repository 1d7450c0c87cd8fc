use Rattle.law_states.proofs.OwnFlawless.{own_state}
use Rattle.law_states.proofs.flawless.flawless_states_are_own.Goals as goal

pub returns : goal.returns
returns c = own_state
