-- Both are active on the timeline, and they have no order; or one of these isn't so.
use Rattle.std.proofs.Common.{◌≡◌, subst, arith}
use Rattle.std.proofs.lemmas.Int.{ints}
use Rattle.plan_defs.specs.Unordered.{IsActiveOn}
use Rattle.timeline_core.proofs.Telling.{one_object, pair_told, pair_second}
use Rattle.timeline_core.proofs.unordered.is_pair.Goals as goal

pub returns-in_default : goal.returns-in_default
returns-in_default g c = λ pair.
    c.in_default.ensures pair.second pair.unordered.share.timeline pair.second_at (pair_second c.args.model.now (g.V.View.decisions c.args.view.now) (g.V.View.state c.args.view.now) c.requires.order c.args.one c.args.other pair)

pub returns-then-found-timeline : goal.returns-then-found-timeline
returns-then-found-timeline g c = λ pair.
    let there = c.in-Some.ensures in
    let here = c.requires.active in
    let share = pair.unordered.share in
    let found : share.timeline ≡ c.in-Some.found = one_object (g.V.View.state c.args.view.now) c.requires.order c.args.other there.0 pair.second c.in-Some.found share.timeline there.1 pair.second_at there.2.on share.other_on in
    let given : share.timeline ≡ c.args.timeline = one_object (g.V.View.state c.args.view.now) c.requires.order c.args.one here.0 pair.first c.args.timeline share.timeline here.1 pair.first_at here.2.on share.one_on in
    omega (arith, ints, found, given, c.if-found-timeline.true)

pub returns : goal.returns
returns g c =
    let there = c.in-Some.ensures in
    let same : c.in-Some.found ≡ c.args.timeline = omega (arith, ints, c.if-found-timeline.false) in
    pair_told c.args.model.now (g.V.View.decisions c.args.view.now) (g.V.View.state c.args.view.now) c.requires.order c.args.one c.args.other c.args.timeline c.have_no_order.result c.requires.before c.requires.active
    (there.0, there.1, subst (λ n. IsActiveOn c.args.model.now (g.V.View.decisions c.args.view.now) (g.V.View.state c.args.view.now) there.0 n) same there.2) c.have_no_order.ensures
