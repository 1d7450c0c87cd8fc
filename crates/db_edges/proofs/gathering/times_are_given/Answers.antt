use Rattle.std.proofs.Common.{sym, arith}
use Rattle.db_edges.specs.Edges.{HasTimesGiven}
use Rattle.db_edges.proofs.Appending.{appends_none, appends_next, appends_all}
use Rattle.db_edges.proofs.gathering.times_are_given.Goals as goal

pub loop-place-init : goal.loop-place-init
loop-place-init g c = appends_none (HasTimesGiven c.args.model.now c.args.decisions.now) (g.V.View.state c.args.view.now).tokens c.args.edges.now.items

pub loop-place-preserved : goal.loop-place-preserved
loop-place-preserved g c =
    appends_next (HasTimesGiven c.args.model.now c.args.decisions.now) (g.V.View.state c.args.view.now).tokens c.args.edges.now.items c.loop-place.edges.items c.times_given.new.edges.items
    c.loop-place.place c.in-Some.token.now (sym c.in-Some.ensures) c.loop-place.invariant c.in_ok-times_given-in-Some.ensures

pub returns : goal.returns
returns g c =
    appends_all (HasTimesGiven c.args.model.now c.args.decisions.now) (g.V.View.state c.args.view.now).tokens c.args.edges.now.items c.loop-place.edges.items c.loop-place.place
    (omega (arith, c.count-count.ensures)) c.loop-place.invariant
