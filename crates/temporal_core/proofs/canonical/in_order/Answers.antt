use Rattle.std.proofs.Common.{sym, subst, arith}
use Rattle.temporal_core.specs.Canonical.{IsCycleOf}
use Rattle.temporal_core.proofs.Following.{places_some, cycle_short, first_is, ordered_none, goes_on, ordered_next, ordered_all}
use Rattle.temporal_core.proofs.canonical.in_order.Goals as goal

pub least_place-start-requires-clause-some : goal.least_place-start-requires-clause-some
least_place-start-requires-clause-some c = places_some c.args.edges.now c.args.places.now c.requires.cycle.0 c.requires.cycle.1

pub loop-turn-init : goal.loop-turn-init
loop-turn-init c = λ cycle is.
    ordered_none c.args.edges.now c.args.places.now cycle is c.least_place-start.result c.new-ordered.result.items c.new-ordered.ensures.items c.least_place-start.ensures.member c.least_place-start.ensures.least

pub place_from-place-requires-clause-found : goal.place_from-place-requires-clause-found
place_from-place-requires-clause-found c =
    let cycle = c.requires.cycle.0 in
    let is = c.requires.cycle.1 in
    goes_on c.args.edges.now c.args.places.now cycle is c.loop-turn._turn c.loop-turn.ordered.items c.loop-turn.place (c.loop-turn.invariant cycle is)

pub returns-then-place-start : goal.returns-then-place-start
returns-then-place-start c =
    let cycle = c.requires.cycle.0 in
    let is = c.requires.cycle.1 in
    let begins = first_is c.args.edges.now c.args.places.now cycle is c.least_place-start.result c.least_place-start.ensures.member c.least_place-start.ensures.least in
    let all = ordered_all c.args.edges.now c.args.places.now cycle is c.loop-turn._turn c.loop-turn.ordered.items c.loop-turn.place (c.loop-turn.invariant cycle is)
    c.place_from-place.result c.least_place-start.result c.push.new.self.items c.in_ok-push.ensures.items c.place_from-place.ensures.member c.place_from-place.ensures.from begins c.if-place-start.true in
    subst (IsCycleOf c.args.edges.now c.args.places.now) (sym all) is

pub loop-turn-preserved : goal.loop-turn-preserved
loop-turn-preserved c = λ cycle is.
    let begins = first_is c.args.edges.now c.args.places.now cycle is c.least_place-start.result c.least_place-start.ensures.member c.least_place-start.ensures.least in
    ordered_next c.args.edges.now c.args.places.now cycle is c.loop-turn._turn c.loop-turn.ordered.items c.loop-turn.place (c.loop-turn.invariant cycle is)
    c.place_from-place.result c.least_place-start.result c.push.new.self.items c.in_ok-push.ensures.items c.place_from-place.ensures.member c.place_from-place.ensures.from begins c.if-place-start.false

pub unreachable-requires : goal.unreachable-requires
unreachable-requires c =
    let cycle = c.requires.cycle.0 in
    let is = c.requires.cycle.1 in
    let inside = (c.loop-turn.invariant cycle is).inside in
    let short = cycle_short c.args.edges.now c.args.places.now cycle is c.args.points c.requires.edges in
    omega arith
