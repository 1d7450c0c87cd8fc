use Rattle.law_search.proofs.Under.{no_line, no_decision}
use Rattle.law_search.proofs.swaps.nothing_stands_in_the_way.Goals as goal

pub returns-clause-lines : goal.returns-clause-lines
returns-clause-lines c = λ model decisions plan one other line may there under. no_line model decisions plan one other may line there under

pub returns-clause-decisions : goal.returns-clause-decisions
returns-clause-decisions c =
    λ model decisions plan one other decision may there under. no_decision model decisions plan one other may decision there under
