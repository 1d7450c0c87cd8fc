use Rattle.std.proofs.Common.{◌≡◌, ◌<◌, List, ◌++◌, map, w32, to_z, of_z, sym, ap, ◌∙◌, subst, arith}
use Rattle.std.specs.Prelude.{All}
use Rattle.std.proofs.lemmas.Int.{ints}
use Rattle.std.proofs.lemmas.List.Elements.{All-contains}
use Rattle.temporal_core.specs.declared.edges.Edge.{Edge}
use Rattle.temporal_core.specs.Network.{IsEdge}
use Rattle.temporal_core.specs.TimeBounds.{AreBounds}
use Rattle.flow_envelope.specs.Pins.{late_edge, with_more, HasSchedule}
use Rattle.flow_envelope.proofs.Joining.{late_edges}
use Rattle.flow_envelope.proofs.more_edges.bounds_late.Goals as goal

pub bounds_with-requires-clause-more : goal.bounds_with-requires-clause-more
bounds_with-requires-clause-more c =
    let at : to_z w32 (of_z w32 c.args.at) ≡ c.args.at = omega (arith, ints) in
    let same : c.as_slice.result.now ≡ map (late_edge c.args.at) c.args.points.now = c.as_slice.ensures.value ∙ (c.in_ok-more.ensures ∙ ap (λ z. map (late_edge z) c.args.points.now) at) in
    subst (All (IsEdge c.args.edges.now.points)) (sym same) (late_edges c.args.edges.now.points c.args.at c.args.points.now c.requires.some c.requires.at (λ point there. All-contains (λ p. p < c.args.edges.now.points) c.args.points.now point c.requires.points there))

pub bounds_with-requires-clause-schedule : goal.bounds_with-requires-clause-schedule
bounds_with-requires-clause-schedule c =
    let at : to_z w32 (of_z w32 c.args.at) ≡ c.args.at = omega (arith, ints) in
    let same : c.as_slice.result.now ≡ map (late_edge c.args.at) c.args.points.now = c.as_slice.ensures.value ∙ (c.in_ok-more.ensures ∙ ap (λ z. map (late_edge z) c.args.points.now) at) in
    subst (λ (list : List Edge). HasSchedule (c.args.edges.now.edges ++ list)) (sym same) c.requires.schedule

pub returns : goal.returns
returns c =
    let at : to_z w32 (of_z w32 c.args.at) ≡ c.args.at = omega (arith, ints) in
    let same : c.as_slice.result.now ≡ map (late_edge c.args.at) c.args.points.now = c.as_slice.ensures.value ∙ (c.in_ok-more.ensures ∙ ap (λ z. map (late_edge z) c.args.points.now) at) in
    subst (λ (list : List Edge). AreBounds (with_more c.args.edges.now list) c.in_ok-found.found) same c.in_ok-found.ensures.bounds
