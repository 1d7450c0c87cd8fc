use Rattle.nddl_whole_laws.proofs.Known.{bounds_kept}
use Rattle.nddl_whole_laws.proofs.whole_laws.resources_keep_bounds.Goals as goal

pub returns : goal.returns
returns c = bounds_kept
