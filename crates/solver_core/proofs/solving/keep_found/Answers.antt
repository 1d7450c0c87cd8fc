use Rattle.solver_core.proofs.Resulting.{kept_found, kept_none}
use Rattle.solver_core.proofs.solving.keep_found.Goals as goal

pub returns-then-is_found : goal.returns-then-is_found
returns-then-is_found g c = kept_found g.task c.args.end.now c.args.db.now c.if-is_found.ensures

pub returns : goal.returns
returns g c = kept_none g.task c.args.end.now c.args.db.now c.rewind.new.db c.if-is_found.ensures c.rewind.ensures.database c.rewind.ensures.still
