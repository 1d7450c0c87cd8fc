use Rattle.nddl_object_laws.proofs.Program.{run_as_stated}
use Rattle.nddl_object_laws.proofs.laws.constructors_run_as_stated.Goals as goal

pub returns : goal.returns
returns c = run_as_stated
