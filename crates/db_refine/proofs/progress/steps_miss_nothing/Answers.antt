use Rattle.db_refine.proofs.Keeping.{first_misses, token_misses, block_misses, posting_misses}
use Rattle.db_refine.proofs.Lessening.{falling_misses}
use Rattle.db_refine.proofs.progress.steps_miss_nothing.Goals as goal

pub returns-clause-first : goal.returns-clause-first
returns-clause-first c = first_misses

pub returns-clause-tokens : goal.returns-clause-tokens
returns-clause-tokens c = λ model decisions posted later old new token unfolded due lawful is misses none comes lasts_posted.
    token_misses model decisions posted later old new token unfolded due lawful is misses none comes lasts_posted

pub returns-clause-blocks : goal.returns-clause-blocks
returns-clause-blocks c = λ model decisions posted old new block unfolded due lawful is misses within none comes behind.
    block_misses model decisions posted old new block unfolded due lawful is misses within none comes behind

pub returns-clause-posting : goal.returns-clause-posting
returns-clause-posting c = posting_misses

pub returns-clause-falling : goal.returns-clause-falling
returns-clause-falling c = λ model decisions posted content domains unfolded due after misses are within notes.
    falling_misses model decisions posted content domains unfolded due after misses are within notes
