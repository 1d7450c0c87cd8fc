use Rattle.std.proofs.Common.{◌≡◌, ◌<◌, ◌++◌, ◌∷◌, [], Some, length, get_or, refl, ap, ◌∙◌, arith}
use Rattle.std.specs.Prelude.{slice_get}
use Rattle.std.proofs.lemmas.Option.{slice_get_read}
use Rattle.db_edges.specs.declared.edge.NamedEdge.{NamedEdge}
use Rattle.conflict_core.proofs.Copying.{walk_next}
use Rattle.conflict_core.proofs.edge_cycle.walk.Goals as goal

pub loop-place-preserved : goal.loop-place-preserved
loop-place-preserved c =
    let edges = c.args.edges.now in
    let places = c.args.places.now in
    let index = c.loop-place.place-index in
    let within : index < length places = omega arith in
    let number = get_or places index 0 in
    let edge = c.index-edges-number.result in
    let at : slice_get edges number ≡ Some edge = slice_get_read edges (length edges) number edge refl (c.requires index 0 within) c.index-edges-number.is in
    c.in_ok-push.ensures.items ∙ (ap (λ (e : NamedEdge). c.loop-place.found.items ++ e ∷ []) c.in_ok-copied.ensures
    ∙ walk_next edges places index edge c.loop-place.found.items within at c.loop-place.invariant)
