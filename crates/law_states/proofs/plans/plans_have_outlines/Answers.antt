use Rattle.law_states.proofs.Outlining as outlining
use Rattle.law_states.proofs.plans.plans_have_outlines.Goals as goal

-- src/laws.rt:8:1
pub returns : goal.returns
returns c = outlining.plans_have_outlines
