use Rattle.std.proofs.Common.{◌≡◌, w64, to_z, of_z, ap, ◌∙◌, arith}
use Rattle.std.proofs.lemmas.Int.{ints}
use Rattle.temporal_core.specs.Satisfied.{value_at}
use Rattle.flow_envelope.specs.Finish.{left_of, left_at}
use Rattle.flow_envelope.specs.Certain.{certain_at}
use Rattle.flow_envelope.proofs.Ending.{left_more}
use Rattle.flow_envelope.proofs.finish.left_sum.Goals as goal

pub loop-place-preserved : goal.loop-place-preserved
loop-place-preserved c =
    let certain = c.args.certain.now in
    let more = c.args.more.now in
    let room = c.args.room.now in
    let place = c.loop-place.place in
    let more_low = (c.requires.more place).0 in
    let more_high = (c.requires.more place).1 in
    let room_low = (c.requires.room place).0 in
    let room_high = (c.requires.room place).1 in
    let more_is : to_z w64 (of_z w64 (value_at more place)) ≡ value_at more place = omega (arith, ints) in
    let room_is : to_z w64 (of_z w64 (value_at room place)) ≡ value_at room place = omega (arith, ints) in
    let one : c.left-sum.result ≡ left_at certain more room place =
    c.left-sum.ensures ∙ (ap (λ z. left_of (certain_at certain place) z (to_z w64 (of_z w64 (value_at room place)))) more_is ∙ ap (λ z. left_of (certain_at certain place) (value_at more place) z) room_is) in
    let next = left_more certain more room place (to_z w64 c.loop-place.sum-bits) c.left-sum.result c.loop-place.invariant.sum one more_low more_high room_low room_high in
    let next_sum = next.0 in
    let next_low = next.1 in
    let next_high = next.2 in
    let low = c.loop-place.invariant.low in
    let high = c.loop-place.invariant.high in
    let few = c.requires.few in
    let inside = c.loop-place-test.true in
    record { sum = omega (arith, ints); low = omega (arith, ints); high = omega (arith, ints) }
