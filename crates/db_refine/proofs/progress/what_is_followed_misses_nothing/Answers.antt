use Rattle.db_refine.proofs.Following.{unfolding_misses, looking_misses, stale_misses, deciding_misses}
use Rattle.db_refine.proofs.progress.what_is_followed_misses_nothing.Goals as goal

pub returns-clause-unfolding : goal.returns-clause-unfolding
returns-clause-unfolding c = λ model decisions posted content block entries unfolded due misses at is_block slots items branches.
    unfolding_misses model decisions posted content block entries unfolded due misses at is_block slots items branches

pub returns-clause-looking : goal.returns-clause-looking
returns-clause-looking c = λ model decisions posted content unfolded variable name due misses named guarded looked.
    looking_misses model decisions posted content unfolded variable due misses name named guarded looked

pub returns-clause-stale : goal.returns-clause-stale
returns-clause-stale c = λ model decisions posted content unfolded variable due misses past.
    stale_misses model decisions posted content unfolded variable due misses past

pub returns-clause-deciding : goal.returns-clause-deciding
returns-clause-deciding c = λ model decisions decision posted content unfolded due misses taken.
    deciding_misses model decisions decision posted content unfolded due misses taken
