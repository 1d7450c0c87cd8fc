use Rattle.db_refine.proofs.Owing.{asked_is_owed}
use Rattle.db_refine.proofs.growth.what_is_asked_is_owed.Goals as goal

pub returns : goal.returns
returns c = asked_is_owed
