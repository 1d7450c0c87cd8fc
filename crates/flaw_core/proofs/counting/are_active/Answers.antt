-- As many are active as were counted.
use Rattle.flaw_core.proofs.Gathering.{active_told}
use Rattle.flaw_core.proofs.counting.are_active.Goals as goal

pub returns : goal.returns
returns g c = active_told (g.V.View.model c.args.view.now) (g.V.View.decisions c.args.view.now) (g.V.View.state c.args.view.now) c.requires c.args.number c.count_active.result c.count_active.ensures
