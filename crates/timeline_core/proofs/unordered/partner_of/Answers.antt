-- Where the token is on no timeline, it is of no pair.
use Rattle.timeline_core.proofs.Telling.{pair_first}
use Rattle.timeline_core.proofs.unordered.partner_of.Goals as goal

pub returns-in_default : goal.returns-in_default
returns-in_default g c = λ other pair.
    c.in_default.ensures pair.first pair.unordered.share.timeline pair.first_at (pair_first c.args.model.now (g.V.View.decisions c.args.view.now) (g.V.View.state c.args.view.now) c.requires.order c.args.one other pair)
