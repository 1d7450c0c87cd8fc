-- An active token counts, and another doesn't.
use Rattle.std.proofs.Common.{arith}
use Rattle.model_core.specs.Decided.{IsActive}
use Rattle.timeline_core.proofs.Deciding.{settled_once}
use Rattle.flaw_core.proofs.Gathering.{count_none, count_more, count_same, count_all}
use Rattle.flaw_core.proofs.counting.count_active.Goals as goal

pub is_active-requires : goal.is_active-requires
is_active-requires g c = settled_once (g.V.View.model c.args.view.now) (g.V.View.decisions c.args.view.now) c.requires.settled

pub loop-place-init : goal.loop-place-init
loop-place-init g c = count_none (IsActive (g.V.View.model c.args.view.now) (g.V.View.decisions c.args.view.now)) (g.V.View.state c.args.view.now)

pub overflow_add-active : goal.overflow_add-active
overflow_add-active g c = let few = c.loop-place.invariant.few in omega (arith, few)

pub loop-place-preserved-then-not-is_active : goal.loop-place-preserved-then-not-is_active
loop-place-preserved-then-not-is_active g c = count_same (IsActive (g.V.View.model c.args.view.now) (g.V.View.decisions c.args.view.now)) (g.V.View.state c.args.view.now) c.requires.least.closed.consistent.is_state.order c.loop-place.place c.loop-place.active c.loop-place.invariant c.if-not-is_active.ensures

pub loop-place-preserved : goal.loop-place-preserved
loop-place-preserved g c = count_more (IsActive (g.V.View.model c.args.view.now) (g.V.View.decisions c.args.view.now)) (g.V.View.state c.args.view.now) c.requires.least.closed.consistent.is_state.order c.loop-place.place c.loop-place.active c.loop-place.invariant c.if-not-is_active.ensures

pub returns : goal.returns
returns g c =
    count_all (IsActive (g.V.View.model c.args.view.now) (g.V.View.decisions c.args.view.now)) (g.V.View.state c.args.view.now) c.requires.least.closed.consistent.is_state.order c.loop-place.place c.loop-place.active (omega (arith, c.loop-place.auto.place-end, c.count-place-end.ensures)) c.loop-place.invariant
