use Rattle.db_opening.proofs.Beginning.{begins_from}
use Rattle.db_opening.proofs.filling.begin.Goals as goal

pub returns : goal.returns
returns c = begins_from c.args.model.now c.fill-filled.result c.fill-filled.new.store c.behind.result c.fill-filled.ensures c.behind.ensures
