use Rattle.db_history.specs.Standing.{KeepsList}
use Rattle.db_history.proofs.Keeping.{built}
use Rattle.db_history.proofs.forward.build.Goals as goal

pub returns : goal.returns
returns c =
    built c.go_on_from-done.result c.go_on_from-done.new.kept c.behind.result (KeepsList c.args.model.now c.args.decisions.now)
    c.go_on_from-done.ensures c.behind.ensures
