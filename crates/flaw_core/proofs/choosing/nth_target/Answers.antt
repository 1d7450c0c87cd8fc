-- Each target is passed by until the number is spent.
use Rattle.std.proofs.Common.{arith}
use Rattle.flaw_core.specs.Gathering.{IsTarget}
use Rattle.flaw_core.proofs.Existing.{target_or_not}
use Rattle.flaw_core.proofs.Gathering.{pass_none, pass_more, pass_same, pass_here, pass_all}
use Rattle.flaw_core.proofs.choosing.nth_target.Goals as goal

pub loop-place-init : goal.loop-place-init
loop-place-init g c = pass_none (IsTarget c.args.model.now (g.V.View.decisions c.args.view.now) c.args.pred) (g.V.View.state c.args.view.now) c.args.number

pub loop-place-preserved-then-not-is_target : goal.loop-place-preserved-then-not-is_target
loop-place-preserved-then-not-is_target g c = pass_same (IsTarget c.args.model.now (g.V.View.decisions c.args.view.now) c.args.pred) (g.V.View.state c.args.view.now) c.requires.least.least.closed.consistent.is_state.order c.args.number c.loop-place.place c.loop-place.left c.loop-place.invariant c.if-not-is_target.ensures

pub returns-then-left-eq0 : goal.returns-then-left-eq0
returns-then-left-eq0 g c = λ targets all.
    pass_here (IsTarget c.args.model.now (g.V.View.decisions c.args.view.now) c.args.pred) (g.V.View.state c.args.view.now) c.requires.least.least.closed.consistent.is_state.order (target_or_not (g.V.View.model c.args.view.now) c.args.model.now (g.V.View.decisions c.args.view.now) (g.V.View.state c.args.view.now) c.requires.model c.requires.least c.args.pred) c.args.number c.loop-place.place c.loop-place.left
    (omega (arith, c.if-left-eq0.true)) c.loop-place.invariant c.if-not-is_target.ensures targets all

pub loop-place-preserved : goal.loop-place-preserved
loop-place-preserved g c = pass_more (IsTarget c.args.model.now (g.V.View.decisions c.args.view.now) c.args.pred) (g.V.View.state c.args.view.now) c.requires.least.least.closed.consistent.is_state.order c.args.number c.loop-place.place c.loop-place.left _ (omega (arith, c.if-left-eq0.false)) c.loop-place.invariant c.if-not-is_target.ensures

pub returns : goal.returns
returns g c = λ targets all.
    pass_all (IsTarget c.args.model.now (g.V.View.decisions c.args.view.now) c.args.pred) (g.V.View.state c.args.view.now) c.requires.least.least.closed.consistent.is_state.order c.args.number c.loop-place.place c.loop-place.left (omega (arith, c.loop-place.auto.place-end, c.count-place-end.ensures)) c.loop-place.invariant targets all
