use Rattle.law_states.proofs.Settled as settled
use Rattle.law_states.proofs.existence.lists_settle.Goals as goal

pub returns-clause-settle : goal.returns-clause-settle
returns-clause-settle c = settled.lists_settle

pub returns-clause-conflicts : goal.returns-clause-conflicts
returns-clause-conflicts c = settled.lists_have_conflicts
