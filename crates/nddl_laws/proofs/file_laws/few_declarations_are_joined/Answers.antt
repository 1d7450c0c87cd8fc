use Rattle.nddl_laws.proofs.Few.{joins_few}
use Rattle.nddl_laws.proofs.file_laws.few_declarations_are_joined.Goals as goal

pub returns : goal.returns
returns c = joins_few
