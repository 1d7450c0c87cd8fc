-- Without a domain there is no object; else its one value is it.
use Rattle.timeline_core.proofs.Telling.{object_told}
use Rattle.timeline_core.proofs.unordered.object_of.Goals as goal

pub returns-in_default : goal.returns-in_default
returns-in_default g c = λ token object at on. c.in_default.ensures token on.0 at on.1

pub returns : goal.returns
returns g c = object_told (g.V.View.state c.args.view.now) c.requires c.args.place c.in-Some.domain.now c.single.result c.in-Some.ensures c.single.ensures.some c.single.ensures.none
