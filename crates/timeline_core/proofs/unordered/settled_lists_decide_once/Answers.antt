use Rattle.timeline_core.proofs.Deciding.{settled_once}
use Rattle.timeline_core.proofs.unordered.settled_lists_decide_once.Goals as goal

pub returns : goal.returns
returns c = λ model decisions is. settled_once model decisions is
