-- What a token has become decides, where each is decided once.
use Rattle.timeline_core.proofs.Telling.{active_told, no_token}
use Rattle.timeline_core.proofs.unordered.is_active.Goals as goal

pub returns-in-Some : goal.returns-in-Some
returns-in-Some g c =
    active_told (g.V.View.model c.args.view.now) (g.V.View.decisions c.args.view.now) (g.V.View.state c.args.view.now) c.requires c.args.place c.in-Some.state c.takes_place.result c.takes_place.ensures c.in-Some.ensures

pub returns-in-None : goal.returns-in-None
returns-in-None g c = λ token at active. no_token (g.V.View.state c.args.view.now) c.args.place token c.in-None.ensures at
