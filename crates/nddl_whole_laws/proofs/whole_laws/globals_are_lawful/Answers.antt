use Rattle.nddl_whole_laws.proofs.Ruling.{globals_are_lawful}
use Rattle.nddl_whole_laws.proofs.whole_laws.globals_are_lawful.Goals as goal

pub returns : goal.returns
returns c = globals_are_lawful
