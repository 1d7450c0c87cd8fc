use Rattle.nddl_object_laws.proofs.Program.{are_there_in_turn}
use Rattle.nddl_object_laws.proofs.laws.objects_are_there_in_turn.Goals as goal

pub returns : goal.returns
returns c = are_there_in_turn
