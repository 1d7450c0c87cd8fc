use Rattle.law_search.proofs.Grounding.{settled_grounded}
use Rattle.law_search.proofs.grounds.settled_lists_are_grounded.Goals as goal

pub returns : goal.returns
returns c = λ model decisions decision settled there. settled_grounded model decisions settled decision there
