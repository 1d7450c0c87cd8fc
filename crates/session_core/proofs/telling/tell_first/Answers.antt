use Rattle.session_core.proofs.Flaws.{flaw_told}
use Rattle.session_core.proofs.telling.tell_first.Goals as goal

pub returns-in-Ok : goal.returns-in-Ok
returns-in-Ok g c =
    flaw_told c.args.model.now (g.V.View.decisions c.args.view.now) (g.V.View.state c.args.view.now) c.args.flaw c.in-Ok.count c.requires.first c.flaw_reply.result c.flaw_reply.ensures c.in-Ok.ensures
