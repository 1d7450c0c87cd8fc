use Rattle.nddl_whole_laws.proofs.Belonging.{objects_whole}
use Rattle.nddl_whole_laws.proofs.whole_laws.objects_are_whole.Goals as goal

pub returns : goal.returns
returns c = objects_whole
