-- The four tests together.
use Rattle.std.proofs.Common.{◌≡◌, true}
use Rattle.timeline_core.proofs.Telling.{no_order_told}
use Rattle.timeline_core.proofs.unordered.have_no_order.Goals as goal

pub returns-then-not-may_overrun : goal.returns-then-not-may_overrun
returns-then-not-may_overrun g c = λ first second at at' no. c.if-not-may_overrun.ensures first second at at' no.overruns

pub returns : goal.returns
returns g c =
    no_order_told (g.V.View.decisions c.args.view.now) (g.V.View.state c.args.view.now) c.args.one c.args.other c.may_overrun-2.result
    (λ there. let p : c.ordered.result ≡ true = c.ordered.ensures.1 there in let q = c.if-ordered.false in cc)
    (λ there. let p : c.ordered-2.result ≡ true = c.ordered-2.ensures.1 there in let q = c.if-ordered-2.false in cc)
    c.if-not-may_overrun.ensures c.may_overrun-2.ensures
