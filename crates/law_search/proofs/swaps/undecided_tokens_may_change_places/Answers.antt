use Rattle.law_search.proofs.Under.{undecided_may}
use Rattle.law_search.proofs.swaps.undecided_tokens_may_change_places.Goals as goal

pub returns : goal.returns
returns c = undecided_may
