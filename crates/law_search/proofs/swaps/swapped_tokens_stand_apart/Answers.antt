use Rattle.law_search.proofs.Agreeing.{stand_apart}
use Rattle.law_search.proofs.swaps.swapped_tokens_stand_apart.Goals as goal

pub returns : goal.returns
returns c = stand_apart
