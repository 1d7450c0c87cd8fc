use Rattle.plan_verdicts.proofs.Checking as proved
use Rattle.plan_verdicts.proofs.verdicts.texts_are_read_or_faulty.Goals as goal

pub returns : goal.returns
returns c = proved.texts_are_read_or_faulty
