use Rattle.nddl_lowering_laws.proofs.Reading.{names_found}
use Rattle.nddl_lowering_laws.proofs.seen_laws.read_names_are_found.Goals as goal

pub returns : goal.returns
returns c = names_found
