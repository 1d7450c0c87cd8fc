use Rattle.nddl_laws.proofs.Placed.{fault_has_file}
use Rattle.nddl_laws.proofs.lawful_tables.faults_have_files.Goals as goal

pub returns : goal.returns
returns c = fault_has_file
