use Rattle.db_store.proofs.Following.{goes_on_same, stamps_follow}
use Rattle.db_store.proofs.laws.stamps_follow.Goals as goal

pub returns : goal.returns
returns c = λ old new was is keep. stamps_follow old new was is (keep.stamps old (goes_on_same old))
