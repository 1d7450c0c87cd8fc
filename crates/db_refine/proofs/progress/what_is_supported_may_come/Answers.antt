use Rattle.db_refine.proofs.Growing.{token_justified, block_justified}
use Rattle.db_refine.proofs.progress.what_is_supported_may_come.Goals as goal

pub returns-clause-tokens : goal.returns-clause-tokens
returns-clause-tokens c = λ model decisions tables posted old new token lawful is none supported comes.
    token_justified model decisions tables posted old new token lawful is none supported comes

pub returns-clause-blocks : goal.returns-clause-blocks
returns-clause-blocks c = λ model decisions tables posted old new block entries lawful is none there supported comes.
    block_justified model decisions tables posted old new block entries lawful is none there supported comes
