use Rattle.law_states.proofs.Certain.{token_complete}
use Rattle.law_states.proofs.flawless.flawless_states_are_complete.Goals as goal

pub returns : goal.returns
returns c = token_complete
