use Rattle.nddl_whole_laws.proofs.Belonging.{files_faultless}
use Rattle.nddl_whole_laws.proofs.whole_laws.files_are_faultless.Goals as goal

pub returns : goal.returns
returns c = files_faultless
