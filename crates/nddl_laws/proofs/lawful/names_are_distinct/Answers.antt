use Rattle.nddl_laws.proofs.Distinct.{distinct_names}
use Rattle.nddl_laws.proofs.lawful.names_are_distinct.Goals as goal

pub returns : goal.returns
returns c = distinct_names
