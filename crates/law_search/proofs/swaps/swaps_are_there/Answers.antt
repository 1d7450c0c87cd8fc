use Rattle.law_search.proofs.Agreeing.{swap_is_there}
use Rattle.law_search.proofs.swaps.swaps_are_there.Goals as goal

pub returns : goal.returns
returns c = swap_is_there
