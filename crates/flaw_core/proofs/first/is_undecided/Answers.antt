-- What the token's state says.
use Rattle.timeline_core.proofs.Telling.{no_token}
use Rattle.flaw_core.proofs.Telling.{undecided_told}
use Rattle.flaw_core.proofs.first.is_undecided.Goals as goal

pub returns-in-Some : goal.returns-in-Some
returns-in-Some g c = undecided_told (g.V.View.model c.args.view.now) (g.V.View.decisions c.args.view.now) (g.V.View.state c.args.view.now) c.args.place c.in-Some.state c.says_undecided.result c.says_undecided.ensures c.in-Some.ensures

pub returns-in-None : goal.returns-in-None
returns-in-None g c = λ token here not. no_token (g.V.View.state c.args.view.now) c.args.place token c.in-None.ensures here
