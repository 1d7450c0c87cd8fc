use Rattle.nddl_laws.proofs.Scoping.{name_alike}
use Rattle.nddl_laws.proofs.scope_laws.names_are_read_as_they_denote.Goals as goal

pub returns : goal.returns
returns c = name_alike
