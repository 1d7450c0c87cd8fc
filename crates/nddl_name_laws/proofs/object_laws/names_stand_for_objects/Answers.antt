use Rattle.nddl_name_laws.proofs.Names.{names_stand}
use Rattle.nddl_name_laws.proofs.object_laws.names_stand_for_objects.Goals as goal

pub returns : goal.returns
returns c = names_stand
