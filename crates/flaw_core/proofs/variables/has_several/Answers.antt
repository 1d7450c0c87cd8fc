-- A variable that the state hasn't has no values; else its domain tells.
use Rattle.flaw_core.proofs.Telling.{several_told}
use Rattle.flaw_core.proofs.variables.has_several.Goals as goal

pub returns-in-Some : goal.returns-in-Some
returns-in-Some g c = several_told (g.V.View.state c.args.view.now) c.requires c.args.at c.in-Some.domain.now c.is_unbound.result c.in-Some.ensures c.is_unbound.ensures

pub returns-in-None : goal.returns-in-None
returns-in-None g c = λ name here several. c.in-None.ensures name several.0 here several.1
