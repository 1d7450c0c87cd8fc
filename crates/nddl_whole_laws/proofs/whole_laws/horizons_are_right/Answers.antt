use Rattle.nddl_whole_laws.proofs.Known.{horizons_right}
use Rattle.nddl_whole_laws.proofs.whole_laws.horizons_are_right.Goals as goal

pub returns : goal.returns
returns c = horizons_right
