use Rattle.db_store.proofs.Rising.{rise_back, rise_same}
use Rattle.db_store.proofs.laws.stamps_rise.Goals as goal

pub returns-clause-back : goal.returns-clause-back
returns-clause-back c = rise_back

pub returns-clause-same : goal.returns-clause-same
returns-clause-same c = rise_same
