use Rattle.law_search.proofs.Agreeing.{have_swapped}
use Rattle.law_search.proofs.Under.{same_values}
use Rattle.law_search.proofs.swaps.swaps_keep_values.Goals as goal

pub returns : goal.returns
returns c = λ model decisions old new one other may swap.
    same_values model old new one other (have_swapped model decisions old one other may new swap)
