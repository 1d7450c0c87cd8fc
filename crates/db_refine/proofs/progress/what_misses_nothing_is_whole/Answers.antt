use Rattle.db_refine.proofs.Ending.{whole, top}
use Rattle.db_refine.proofs.progress.what_misses_nothing_is_whole.Goals as goal

pub returns-clause-whole : goal.returns-clause-whole
returns-clause-whole c = whole

pub returns-clause-top : goal.returns-clause-top
returns-clause-top c = λ model decisions tables posted content settled is misses consistent.
    top model decisions tables posted content is misses consistent settled
