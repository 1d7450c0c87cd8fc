use Rattle.law_states.proofs.Founding as founding
use Rattle.law_states.proofs.least.least_states_are_well_founded.Goals as goal

pub returns-clause-above : goal.returns-clause-above
returns-clause-above c = founding.least_above

pub returns-clause-founded : goal.returns-clause-founded
returns-clause-founded c = founding.well_founded
