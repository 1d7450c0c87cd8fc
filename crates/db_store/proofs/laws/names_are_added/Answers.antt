use Rattle.std.proofs.Common.{refl}
use Rattle.db_store.proofs.Naming.{token_is_added, states_are_left_out, block_is_added, variable_is_added}
use Rattle.db_store.proofs.laws.names_are_added.Goals as goal

pub returns-clause-token : goal.returns-clause-token
returns-clause-token c = token_is_added

pub returns-clause-state : goal.returns-clause-state
returns-clause-state c = states_are_left_out

pub returns-clause-block : goal.returns-clause-block
returns-clause-block c = block_is_added

pub returns-clause-variable : goal.returns-clause-variable
returns-clause-variable c = variable_is_added

pub returns-clause-domains : goal.returns-clause-domains
returns-clause-domains c = λ snapshot domains. refl
