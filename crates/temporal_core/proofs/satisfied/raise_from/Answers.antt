use Rattle.std.proofs.Common.{◌≡◌, ◌<◌, ◌+ℤ◌, w64, to_z, of_z, length, get_or, None, refl, sym, subst, arith}
use Rattle.std.proofs.lemmas.Int.{ints}
use Rattle.std.proofs.lemmas.List.{get_or_read}
use Rattle.std.proofs.lemmas.Option.{slice_get_read}
use Rattle.temporal_core.specs.Network.{IsEdge}
use Rattle.temporal_core.specs.Satisfied.{IsLastFrom, RaisesEnd, RaisesFrom, value_at}
use Rattle.eu_name.proofs.Members.{get_all}
use Rattle.temporal_core.proofs.Raising.{untold, IsAfter, IsFrom, IsFrom-last, RaisesFrom-start, RaisesFrom-next, RaisesFrom-all, IsStopped-next, untold_falls}
use Rattle.temporal_core.proofs.satisfied.raise_from.Goals as goal

pub loop-next-init : goal.loop-next-init
loop-next-init c =
    let graph = c.args.graph.now in
    let link : c.index-next.result.now ≡ get_or graph.latest.items c.args.point None = get_or_read graph.latest.items c.args.point c.index-next.result.now (omega (arith, c.requires.graph.points_count)) c.index-next.ensures None in
    let last = subst (IsLastFrom graph.edges.items c.args.point (length graph.edges.items)) (sym link) (c.requires.graph.latest c.args.point c.requires.point) in
    record { from = IsFrom-last graph.edges.items c.args.point (length graph.edges.items) c.index-next.result.now (omega arith) last; raised = RaisesFrom-start graph.edges.items c.args.point c.args.fixed c.args.values.now c.args.queue.now.items c.index-next.result.now last }

pub returns-then-not-branch : goal.returns-then-not-branch
returns-then-not-branch c =
    let graph = c.args.graph.now in
    let edges = graph.edges.items in
    let old = c.args.values.now in
    let point = c.args.point in
    let place = c.in-Some.place in
    let edge = c.index-edge.result.now in
    let inv = c.loop-next.invariant in
    let from_here = subst (IsFrom edges point) c.in-Some.is inv.from in
    let at = slice_get_read edges (length edges) place edge refl from_here.0 c.index-edge.ensures in
    let from = from_here.1 edge at in
    let joins = get_all (IsEdge (length old)) edges place edge c.requires.graph.each at in
    let modest = c.requires.modest point in
    let low = joins.low in
    let high = joins.high in
    let raised : to_z w64 (of_z w64 (to_z w64 (of_z w64 (value_at old point)) +ℤ to_z w64 (of_z w64 c.from.result))) ≡ value_at old point +ℤ edge.gap = omega (arith, ints) in
    let so_far = subst (λ link. RaisesFrom edges (IsAfter link) point c.args.fixed old c.args.queue.now.items c.loop-next.values c.loop-next.queue.items) c.in-Some.is inv.raised in
    let earlier = subst (λ p. IsLastFrom edges p place (get_or graph.earlier.items place None)) from (c.requires.graph.earlier place edge at) in
    let stop = subst (λ done. RaisesEnd edge.to (to_z w64 (of_z w64 (to_z w64 (of_z w64 (value_at old point)) +ℤ to_z w64 (of_z w64 c.from.result)))) c.args.fixed c.loop-next.values c.loop-next.queue.items done c.raise_end.new.values c.raise_end.new.queue.items) c.if-not-branch.true c.in_ok-raise_end.ensures in
    IsStopped-next edges point c.args.fixed old c.args.queue.now.items c.loop-next.values c.loop-next.queue.items place edge _ (get_or graph.earlier.items place None) c.loop-next.auto.values at from joins.to raised earlier so_far
    c.raise_end.new.values c.raise_end.new.queue.items stop

pub loop-next-smaller : goal.loop-next-smaller
loop-next-smaller c =
    let graph = c.args.graph.now in
    let edges = graph.edges.items in
    let place = c.in-Some.place in
    let edge = c.index-edge.result.now in
    let from_here = subst (IsFrom edges c.args.point) c.in-Some.is c.loop-next.invariant.from in
    let at = slice_get_read edges (length edges) place edge refl from_here.0 c.index-edge.ensures in
    let next : c.index-next-in-Some.result.now ≡ get_or graph.earlier.items place None = get_or_read graph.earlier.items place c.index-next-in-Some.result.now (omega (arith, from_here.0, c.requires.graph.count)) c.index-next-in-Some.ensures None in
    let less = untold_falls edges edge.from place (get_or graph.earlier.items place None) (c.requires.graph.earlier place edge at) in
    subst (λ link. untold link < untold c.loop-next.next) (sym next) (subst (λ link. untold (get_or graph.earlier.items place None) < untold link) (sym c.in-Some.is) less)

pub loop-next-preserved : goal.loop-next-preserved
loop-next-preserved c =
    let graph = c.args.graph.now in
    let edges = graph.edges.items in
    let old = c.args.values.now in
    let point = c.args.point in
    let place = c.in-Some.place in
    let edge = c.index-edge.result.now in
    let inv = c.loop-next.invariant in
    let from_here = subst (IsFrom edges point) c.in-Some.is inv.from in
    let at = slice_get_read edges (length edges) place edge refl from_here.0 c.index-edge.ensures in
    let from = from_here.1 edge at in
    let joins = get_all (IsEdge (length old)) edges place edge c.requires.graph.each at in
    let modest = c.requires.modest point in
    let low = joins.low in
    let high = joins.high in
    let raised : to_z w64 (of_z w64 (to_z w64 (of_z w64 (value_at old point)) +ℤ to_z w64 (of_z w64 c.from.result))) ≡ value_at old point +ℤ edge.gap = omega (arith, ints) in
    let so_far = subst (λ link. RaisesFrom edges (IsAfter link) point c.args.fixed old c.args.queue.now.items c.loop-next.values c.loop-next.queue.items) c.in-Some.is inv.raised in
    let earlier = subst (λ p. IsLastFrom edges p place (get_or graph.earlier.items place None)) from (c.requires.graph.earlier place edge at) in
    let next : c.index-next-in-Some.result.now ≡ get_or graph.earlier.items place None = get_or_read graph.earlier.items place c.index-next-in-Some.result.now (omega (arith, from_here.0, c.requires.graph.count)) c.index-next-in-Some.ensures None in
    let last = subst (IsLastFrom edges point place) (sym next) earlier in
    let step = subst (λ done. RaisesEnd edge.to (to_z w64 (of_z w64 (to_z w64 (of_z w64 (value_at old point)) +ℤ to_z w64 (of_z w64 c.from.result)))) c.args.fixed c.loop-next.values c.loop-next.queue.items done c.raise_end.new.values c.raise_end.new.queue.items) c.if-not-branch.false c.in_ok-raise_end.ensures in
    record {
      from = IsFrom-last edges point place c.index-next-in-Some.result.now (omega (arith, from_here.0)) last;
      raised = RaisesFrom-next edges point c.args.fixed old c.args.queue.now.items c.loop-next.values c.loop-next.queue.items place edge _ c.index-next-in-Some.result.now c.loop-next.auto.values at from joins.to raised last so_far
          c.raise_end.new.values c.raise_end.new.queue.items step;
    }

pub returns : goal.returns
returns c = RaisesFrom-all c.args.graph.now.edges.items c.args.point c.args.fixed c.args.values.now c.args.queue.now.items c.loop-next.values c.loop-next.queue.items c.loop-next.next c.in_default.not-Some c.loop-next.invariant.raised
