use Rattle.nddl_object_laws.proofs.Program.{tell_the_earliest}
use Rattle.nddl_object_laws.proofs.laws.the_earliest_fault_is_told.Goals as goal

pub returns : goal.returns
returns c = tell_the_earliest
