use Rattle.law_states.proofs.Topping.{collapse_or_least}
use Rattle.law_states.proofs.existence.lists_collapse_or_have_a_least_state.Goals as goal

pub returns : goal.returns
returns c = collapse_or_least
