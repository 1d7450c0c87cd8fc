use Rattle.law_search.proofs.Agreeing.{swaps_well}
use Rattle.law_search.proofs.swaps.swaps_go_well.Goals as goal

pub returns : goal.returns
returns c = λ model decisions old new one other may swap. swaps_well model decisions old one other may new swap
