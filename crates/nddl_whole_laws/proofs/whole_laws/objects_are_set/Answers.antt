use Rattle.nddl_whole_laws.proofs.Known.{objects_set}
use Rattle.nddl_whole_laws.proofs.whole_laws.objects_are_set.Goals as goal

pub returns : goal.returns
returns c = objects_set
