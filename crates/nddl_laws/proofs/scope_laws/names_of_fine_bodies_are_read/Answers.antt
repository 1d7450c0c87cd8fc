use Rattle.nddl_laws.proofs.Faultless.{fine_body}
use Rattle.nddl_laws.proofs.scope_laws.names_of_fine_bodies_are_read.Goals as goal

pub returns : goal.returns
returns c = fine_body
