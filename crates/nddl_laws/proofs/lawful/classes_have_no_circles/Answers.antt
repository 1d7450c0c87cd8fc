use Rattle.nddl_laws.proofs.Circles.{no_circles}
use Rattle.nddl_laws.proofs.lawful.classes_have_no_circles.Goals as goal

pub returns : goal.returns
returns c = no_circles
