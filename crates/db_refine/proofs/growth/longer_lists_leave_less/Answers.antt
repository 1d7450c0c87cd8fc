use Rattle.db_refine.proofs.Owing.{longer_below, longer_owes}
use Rattle.db_refine.proofs.growth.longer_lists_leave_less.Goals as goal

pub returns-clause-below : goal.returns-clause-below
returns-clause-below c = longer_below

pub returns-clause-owed : goal.returns-clause-owed
returns-clause-owed c = longer_owes
