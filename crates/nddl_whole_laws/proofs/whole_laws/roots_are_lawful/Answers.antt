use Rattle.nddl_whole_laws.proofs.Ruling.{roots_are_lawful}
use Rattle.nddl_whole_laws.proofs.whole_laws.roots_are_lawful.Goals as goal

pub returns : goal.returns
returns c = roots_are_lawful
