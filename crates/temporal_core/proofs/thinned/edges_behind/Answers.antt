use Rattle.std.proofs.Common.{◌≡◌, ◌+◌, length, sym, ◌∙◌, subst, arith}
use Rattle.temporal_core.proofs.Thinning.{IsBehind, behind_more, behind_none}
use Rattle.temporal_core.proofs.thinned.edges_behind.Goals as goal

pub loop-place-init : goal.loop-place-init
loop-place-init c = behind_none c.args.edges.now c.args.last c.in_ok-thin.thin.items c.in_ok-thin.ensures.items

pub loop-place-preserved : goal.loop-place-preserved
loop-place-preserved c =
    let edges = c.args.edges.now in
    let place = c.loop-place.place in
    subst (IsBehind edges c.args.last (place + 1)) (sym c.in_ok-push.ensures.items)
    (behind_more edges c.args.last place c.loop-place.thin.items c.behind.result c.loop-place.invariant c.behind.ensures.idle c.behind.ensures.behind)

pub returns-clause-count : goal.returns-clause-count
returns-clause-count c =
    let last : c.loop-place.place ≡ length c.args.edges.now = omega (arith, c.loop-place-test.false, c.loop-place.auto.place-end) in
    c.loop-place.invariant.count ∙ last

pub returns-clause-idle : goal.returns-clause-idle
returns-clause-idle c = λ place before within. c.loop-place.invariant.idle place before (omega (arith, c.loop-place-test.false))

pub returns-clause-behind : goal.returns-clause-behind
returns-clause-behind c = λ place after within. c.loop-place.invariant.behind place after (omega (arith, c.loop-place-test.false))
