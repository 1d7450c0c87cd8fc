use Rattle.plan_verdicts.proofs.Breaking as proved
use Rattle.plan_verdicts.proofs.verdicts.plans_have_verdicts.Goals as goal

pub returns : goal.returns
returns c = proved.plans_have_verdicts
