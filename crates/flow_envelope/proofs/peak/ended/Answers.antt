use Rattle.std.proofs.Common.{◌≡◌, ℕ, ℤ, ◌<◌, List, ◌++◌, length, map, w32, w64, to_z, of_z, sym, ap, ◌∙◌, subst, arith}
use Rattle.std.specs.Prelude.{All}
use Rattle.std.specs.List.{filter}
use Rattle.std.proofs.lemmas.Int.{ints}
use Rattle.std.proofs.lemmas.List.{length-map}
use Rattle.temporal_core.specs.Satisfied.{value_at}
use Rattle.temporal_core.proofs.Members.{all_from_contains}
use Rattle.flow_envelope.specs.declared.change.Amount.{Amount}
use Rattle.flow_envelope.specs.declared.labels.Label.{Label}
use Rattle.flow_envelope.specs.Sums.{sum_below}
use Rattle.flow_envelope.specs.Pins.{early_edge, HasSchedule}
use Rattle.flow_envelope.specs.Latest.{IsLatest}
use Rattle.flow_envelope.specs.Finish.{left_at, ArePins, IsModest}
use Rattle.flow_envelope.proofs.Adding.{has_amount}
use Rattle.flow_envelope.proofs.Carrying.{more_most, room_most}
use Rattle.flow_envelope.proofs.Ending.{pins_within, pins_have, is_peak}
use Rattle.flow_envelope.proofs.peak.ended.Goals as goal

pub pins_of-requires-clause-adders : goal.pins_of-requires-clause-adders
pins_of-requires-clause-adders c = ap (λ (list : List Label). length list) c.as_slice.ensures.value ∙ c.requires.ended.count

pub latest-requires-clause-pins : goal.latest-requires-clause-pins
latest-requires-clause-pins c =
    let points = c.args.edges.now.points in
    let edges = c.args.edges.now.edges in
    let changes = c.args.changes.now in
    let certain = c.args.certain.now in
    let flow = c.args.flow.now in
    let labels = c.args.labels.now in
    let end = c.requires.ended in
    let pins = c.in_ok-pins.pins.items in
    let are_pins = subst (λ (list : List Label). ArePins changes certain list (length changes) pins) c.as_slice.ensures.value c.in_ok-pins.ensures in
    subst (All (λ point. point < points)) (sym c.as_slice-2.ensures.value)
    (all_from_contains (λ point. point < points) pins
    (pins_within points edges changes c.args.at certain c.requires.few c.requires.changes end.first end.are_pairs c.requires.certain c.requires.schedule flow.pairs.items flow.more.items flow.room.items end.is_flow end.moved
    labels.adders.items labels.takers.items end.closed pins are_pins))

pub latest-requires-clause-schedule : goal.latest-requires-clause-schedule
latest-requires-clause-schedule c =
    let points = c.args.edges.now.points in
    let edges = c.args.edges.now.edges in
    let changes = c.args.changes.now in
    let certain = c.args.certain.now in
    let flow = c.args.flow.now in
    let labels = c.args.labels.now in
    let end = c.requires.ended in
    let pins = c.in_ok-pins.pins.items in
    let at : to_z w32 (of_z w32 c.args.at) ≡ c.args.at = omega (arith, ints) in
    let are_pins = subst (λ (list : List Label). ArePins changes certain list (length changes) pins) c.as_slice.ensures.value c.in_ok-pins.ensures in
    subst (λ (list : List ℕ). HasSchedule (edges ++ map (early_edge (to_z w32 (of_z w32 c.args.at))) list)) (sym c.as_slice-2.ensures.value)
    (subst (λ z. HasSchedule (edges ++ map (early_edge z) pins)) (sym at)
    (pins_have points edges changes c.args.at certain c.requires.few c.requires.changes end.first end.are_pairs c.requires.certain c.requires.schedule flow.pairs.items flow.more.items flow.room.items end.is_flow end.moved
    labels.adders.items labels.takers.items end.closed pins are_pins))

pub left_sum-sum-requires-clause-few : goal.left_sum-sum-requires-clause-few
left_sum-sum-requires-clause-few c = omega (arith, c.requires.certain.count, c.requires.few)

pub left_sum-sum-requires-clause-more_count : goal.left_sum-sum-requires-clause-more_count
left_sum-sum-requires-clause-more_count c =
    let end = c.requires.ended in
    ap (λ (list : List ℤ). length list) c.as_slice-4.ensures.value ∙ (end.moved.more_count ∙ (length-map c.args.changes.now _ ∙ sym c.requires.certain.count))

pub left_sum-sum-requires-clause-room_count : goal.left_sum-sum-requires-clause-room_count
left_sum-sum-requires-clause-room_count c =
    let end = c.requires.ended in
    ap (λ (list : List ℤ). length list) c.as_slice-5.ensures.value ∙ (end.moved.room_count ∙ (length-map c.args.changes.now _ ∙ sym c.requires.certain.count))

pub left_sum-sum-requires-clause-more : goal.left_sum-sum-requires-clause-more
left_sum-sum-requires-clause-more c =
    let flow = c.args.flow.now in
    let end = c.requires.ended in
    subst (λ (list : List ℤ). (place : ℕ) → IsModest (value_at list place)) (sym c.as_slice-4.ensures.value)
    (λ place. (end.is_flow.low_more place, more_most flow.pairs.items flow.more.items flow.room.items place end.is_flow))

pub left_sum-sum-requires-clause-room : goal.left_sum-sum-requires-clause-room
left_sum-sum-requires-clause-room c =
    let flow = c.args.flow.now in
    let end = c.requires.ended in
    subst (λ (list : List ℤ). (place : ℕ) → IsModest (value_at list place)) (sym c.as_slice-5.ensures.value)
    (λ place. (end.is_flow.low_room place, room_most flow.pairs.items flow.more.items flow.room.items place end.is_flow))

pub returns : goal.returns
returns c =
    let points = c.args.edges.now.points in
    let edges = c.args.edges.now.edges in
    let changes = c.args.changes.now in
    let certain = c.args.certain.now in
    let flow = c.args.flow.now in
    let labels = c.args.labels.now in
    let end = c.requires.ended in
    let pins = c.in_ok-pins.pins.items in
    let values = c.in_ok-schedule.schedule.items in
    let at : to_z w32 (of_z w32 c.args.at) ≡ c.args.at = omega (arith, ints) in
    let are_pins = subst (λ (list : List Label). ArePins changes certain list (length changes) pins) c.as_slice.ensures.value c.in_ok-pins.ensures in
    let latest = subst (λ z. IsLatest points edges (edges ++ map (early_edge z) pins) z values) at
    (subst (λ (list : List ℕ). IsLatest points edges (edges ++ map (early_edge (to_z w32 (of_z w32 c.args.at))) list) (to_z w32 (of_z w32 c.args.at)) values) c.as_slice-2.ensures.value c.in_ok-schedule.ensures) in
    let sum : c.left_sum-sum.result ≡ sum_below (left_at certain flow.more.items flow.room.items) (length changes) =
    c.left_sum-sum.ensures ∙ (ap (λ (list : List ℤ). sum_below (left_at certain list c.as_slice-5.result.now) (length certain)) c.as_slice-4.ensures.value
    ∙ (ap (λ (list : List ℤ). sum_below (left_at certain flow.more.items list) (length certain)) c.as_slice-5.ensures.value
    ∙ ap (sum_below (left_at certain flow.more.items flow.room.items)) c.requires.certain.count)) in
    let same : to_z w64 (of_z w64 c.left_sum-sum.result) ≡ c.left_sum-sum.result = omega (arith, ints, c.left_sum-sum.type_inv) in
    let cut = c.from_vec-2.ensures ∙ (c.in_ok-cut.ensures ∙ ap (λ (list : List Amount). filter has_amount list) c.as_slice-3.ensures.value) in
    is_peak points edges changes c.args.at certain c.requires.few c.requires.changes end.first end.are_pairs c.requires.certain c.requires.schedule flow.pairs.items flow.more.items flow.room.items end.is_flow end.moved
    labels.adders.items labels.takers.items end.closed pins are_pins values latest (to_z w64 (of_z w64 c.left_sum-sum.result)) c.from_vec.result c.from_vec-2.result (same ∙ sum) c.from_vec.ensures cut
