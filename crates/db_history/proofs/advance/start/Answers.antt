use Rattle.db_history.proofs.Going.{starts_from}
use Rattle.db_history.proofs.advance.start.Goals as goal

pub returns : goal.returns
returns c = starts_from c.args.model.now c.bring_beginning_to_rest-rested.result c.bring_beginning_to_rest-rested.new.store c.behind.result c.bring_beginning_to_rest-rested.ensures c.behind.ensures
