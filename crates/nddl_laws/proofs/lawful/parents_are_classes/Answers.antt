use Rattle.nddl_laws.proofs.Circles.{parents_there}
use Rattle.nddl_laws.proofs.lawful.parents_are_classes.Goals as goal

pub returns : goal.returns
returns c = parents_there
