use Rattle.law_states.proofs.Joining as joining
use Rattle.law_states.proofs.least.propagated_states_have_uppers.Goals as goal

pub returns : goal.returns
returns c = λ model decisions one other lawful one_fit other_fit. joining.upper model decisions lawful one other one_fit other_fit
