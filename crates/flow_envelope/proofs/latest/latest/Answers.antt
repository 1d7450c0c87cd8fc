use Rattle.std.proofs.Common.{◌≡◌, ℕ, ℤ, ◌<◌, pos, ◌+ℤ◌, List, Option, ◌++◌, length, map, w32, w64, to_z, of_z, sym, ap, ◌∙◌, subst, arith}
use Rattle.std.specs.Prelude.{All}
use Rattle.std.proofs.lemmas.Int.{ints}
use Rattle.std.proofs.lemmas.Result.{IfOk-weaker}
use Rattle.std.proofs.lemmas.List.Elements.{All-append}
use Rattle.temporal_core.specs.Network.{IsEdge}
use Rattle.temporal_core.specs.Schedule.{AreLeastValues, AreGreatestValues}
use Rattle.temporal_core.proofs.Members.{all_from_contains}
use Rattle.flow_envelope.specs.Peak.{IsInstant}
use Rattle.flow_envelope.specs.Pins.{early_edge, late_edge, HasSchedule}
use Rattle.flow_envelope.specs.Latest.{IsJoined, IsLatest}
use Rattle.flow_envelope.proofs.Nearness.{greatest_up_to}
use Rattle.flow_envelope.proofs.Joining.{early_edges, free_within, late_have, can_be_lifted, is_latest}
use Rattle.flow_envelope.proofs.latest.latest.Goals as goal

pub free_points-requires : goal.free_points-requires
free_points-requires c =
    let count = ap (λ (list : List (Option ℤ)). length list) c.as_slice-greatest.ensures ∙ c.in_ok-ends.ensures.bounds.greatest.count in
    omega (arith, count, c.in_ok-ends.ensures.network.few)

pub bounds_late-requires-clause-some : goal.bounds_late-requires-clause-some
bounds_late-requires-clause-some c = c.in_ok-ends.ensures.network.some

pub bounds_late-requires-clause-points : goal.bounds_late-requires-clause-points
bounds_late-requires-clause-points c =
    let points = c.args.edges.now.points in
    let edges = c.args.edges.now.edges in
    let more = map (early_edge (to_z w32 (of_z w32 c.args.at))) c.args.pins.now in
    let at : to_z w32 (of_z w32 c.args.at) ≡ c.args.at = omega (arith, ints) in
    let greatest = c.as_slice-greatest.result.now in
    let bounds = c.in_ok-ends.ensures.bounds in
    let network = c.in_ok-ends.ensures.network in
    let are_greatest = subst (AreGreatestValues points (edges ++ more)) (sym c.as_slice-greatest.ensures) bounds.greatest in
    subst (All (λ point. point < points)) (sym c.as_slice.ensures.value)
    (all_from_contains (λ point. point < points) c.in_ok-free.free.items
    (free_within points edges more (to_z w32 (of_z w32 c.args.at)) (subst IsInstant (sym at) c.requires.at) network.some network.few network.edges greatest are_greatest bounds.schedule c.in_ok-free.free.items c.in_ok-free.ensures))

pub bounds_late-requires-clause-schedule : goal.bounds_late-requires-clause-schedule
bounds_late-requires-clause-schedule c =
    let points = c.args.edges.now.points in
    let edges = c.args.edges.now.edges in
    let more = map (early_edge (to_z w32 (of_z w32 c.args.at))) c.args.pins.now in
    let at : to_z w32 (of_z w32 c.args.at) ≡ c.args.at = omega (arith, ints) in
    let greatest = c.as_slice-greatest.result.now in
    let bounds = c.in_ok-ends.ensures.bounds in
    let network = c.in_ok-ends.ensures.network in
    let are_greatest = subst (AreGreatestValues points (edges ++ more)) (sym c.as_slice-greatest.ensures) bounds.greatest in
    subst (λ (list : List ℕ). HasSchedule (edges ++ map (late_edge (to_z w32 (of_z w32 c.args.at))) list)) (sym c.as_slice.ensures.value)
    (late_have points edges more (to_z w32 (of_z w32 c.args.at)) (subst IsInstant (sym at) c.requires.at) network.some network.few network.edges greatest are_greatest bounds.schedule c.in_ok-free.free.items c.in_ok-free.ensures)

pub top_of-lift-requires : goal.top_of-lift-requires
top_of-lift-requires c =
    let points = c.args.edges.now.points in
    let edges = c.args.edges.now.edges in
    let more = map (early_edge (to_z w32 (of_z w32 c.args.at))) c.args.pins.now in
    let at : to_z w32 (of_z w32 c.args.at) ≡ c.args.at = omega (arith, ints) in
    let greatest = c.as_slice-greatest.result.now in
    let bounds = c.in_ok-ends.ensures.bounds in
    let network = c.in_ok-ends.ensures.network in
    let are_greatest = subst (AreGreatestValues points (edges ++ more)) (sym c.as_slice-greatest.ensures) bounds.greatest in
    greatest_up_to points (edges ++ more) network.some network.few
    (All-append (IsEdge points) edges more network.edges (early_edges points (to_z w32 (of_z w32 c.args.at)) c.args.pins.now (subst IsInstant (sym at) c.requires.at) c.requires.pins))
    greatest are_greatest

pub joined-requires-clause-count : goal.joined-requires-clause-count
joined-requires-clause-count c =
    ap (λ (list : List (Option ℤ)). length list) c.as_slice-least.ensures ∙ (c.in_ok-late.ensures.least.count
    ∙ sym (ap (λ (list : List (Option ℤ)). length list) c.as_slice-greatest.ensures ∙ c.in_ok-ends.ensures.bounds.greatest.count))

pub joined-requires-clause-each : goal.joined-requires-clause-each
joined-requires-clause-each c =
    let points = c.args.edges.now.points in
    let edges = c.args.edges.now.edges in
    let more = map (early_edge (to_z w32 (of_z w32 c.args.at))) c.args.pins.now in
    let at : to_z w32 (of_z w32 c.args.at) ≡ c.args.at = omega (arith, ints) in
    let greatest = c.as_slice-greatest.result.now in
    let least = c.as_slice-least.result.now in
    let bounds = c.in_ok-ends.ensures.bounds in
    let network = c.in_ok-ends.ensures.network in
    let are_greatest = subst (AreGreatestValues points (edges ++ more)) (sym c.as_slice-greatest.ensures) bounds.greatest in
    let are_least = subst (λ (list : List ℕ). AreLeastValues points (edges ++ map (late_edge (to_z w32 (of_z w32 c.args.at))) list) least) c.as_slice.ensures.value
    (subst (AreLeastValues points (edges ++ map (late_edge (to_z w32 (of_z w32 c.args.at))) c.as_slice.result.now)) (sym c.as_slice-least.ensures) c.in_ok-late.ensures.least) in
    can_be_lifted points edges more (to_z w32 (of_z w32 c.args.at)) (subst IsInstant (sym at) c.requires.at) network.some network.few network.edges greatest are_greatest bounds.schedule c.in_ok-free.free.items c.in_ok-free.ensures
    least are_least

pub joined-requires-clause-lift : goal.joined-requires-clause-lift
joined-requires-clause-lift c =
    let low = c.top_of-lift.ensures.low in
    let high = c.top_of-lift.ensures.high in
    (omega (arith, ints), omega (arith, ints))

pub returns : goal.returns
returns c =
    let points = c.args.edges.now.points in
    let edges = c.args.edges.now.edges in
    let more = map (early_edge (to_z w32 (of_z w32 c.args.at))) c.args.pins.now in
    let at : to_z w32 (of_z w32 c.args.at) ≡ c.args.at = omega (arith, ints) in
    let greatest = c.as_slice-greatest.result.now in
    let least = c.as_slice-least.result.now in
    let bounds = c.in_ok-ends.ensures.bounds in
    let network = c.in_ok-ends.ensures.network in
    let are_greatest = subst (AreGreatestValues points (edges ++ more)) (sym c.as_slice-greatest.ensures) bounds.greatest in
    let are_least = subst (λ (list : List ℕ). AreLeastValues points (edges ++ map (late_edge (to_z w32 (of_z w32 c.args.at))) list) least) c.as_slice.ensures.value
    (subst (AreLeastValues points (edges ++ map (late_edge (to_z w32 (of_z w32 c.args.at))) c.as_slice.result.now)) (sym c.as_slice-least.ensures) c.in_ok-late.ensures.least) in
    let top = c.top_of-lift.result in
    let low = c.top_of-lift.ensures.low in
    let high = c.top_of-lift.ensures.high in
    let lift : to_z w64 (of_z w64 (to_z w64 (of_z w64 top) +ℤ pos 3000001)) ≡ top +ℤ pos 3000001 = omega (arith, ints) in
    IfOk-weaker c.joined.result
    (λ values. IsJoined greatest least (to_z w64 (of_z w64 (to_z w64 (of_z w64 top) +ℤ pos 3000001))) values.items)
    (λ values. IsLatest points edges (edges ++ map (early_edge c.args.at) c.args.pins.now) c.args.at values.items)
    (λ values is. subst (λ z. IsLatest points edges (edges ++ map (early_edge z) c.args.pins.now) z values.items) at
    (is_latest points edges more (to_z w32 (of_z w32 c.args.at)) (subst IsInstant (sym at) c.requires.at) network.some network.few network.edges greatest are_greatest bounds.schedule c.in_ok-free.free.items c.in_ok-free.ensures
    least are_least top (to_z w64 (of_z w64 (to_z w64 (of_z w64 top) +ℤ pos 3000001))) low c.top_of-lift.ensures.each lift values.items is.count is.each))
    c.joined.ensures
