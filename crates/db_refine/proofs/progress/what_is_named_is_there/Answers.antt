use Rattle.db_refine.proofs.Naming.{named_there}
use Rattle.db_refine.proofs.progress.what_is_named_is_there.Goals as goal

pub returns : goal.returns
returns c = λ model decisions posted content unfolded number due block entries lawful is misses at below is_block slots.
    named_there model decisions posted content unfolded due lawful is misses number block entries at below is_block slots
