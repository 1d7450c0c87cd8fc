use Rattle.nddl_laws.proofs.Once.{stand_once}
use Rattle.nddl_laws.proofs.file_laws.each_declaration_stands_once.Goals as goal

pub returns : goal.returns
returns c = stand_once
