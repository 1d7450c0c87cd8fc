use Rattle.std.proofs.Common.{◌≡◌, ◌<◌, pos, ◌≤ℤ◌, false, length, w64, to_z, of_z, sym, ap, ◌∙◌, subst, arith}
use Rattle.std.specs.Prelude.{int_lt}
use Rattle.std.proofs.lemmas.Int.{ints}
use Rattle.std.proofs.lemmas.List.{get_or_read}
use Rattle.temporal_core.specs.Satisfied.{value_at}
use Rattle.flow_envelope.specs.declared.change.Amount.{Amount}
use Rattle.flow_envelope.specs.declared.labels.Label.{Label}
use Rattle.flow_envelope.specs.Pairs.{pair_at}
use Rattle.flow_envelope.specs.Labels.{label_at}
use Rattle.flow_envelope.proofs.Adding.{le_from}
use Rattle.flow_envelope.proofs.Carrying.{room_most}
use Rattle.flow_envelope.proofs.Leading.{own_led, full_led, handed}
use Rattle.flow_envelope.proofs.filling.step.Goals as goal

pub returns : goal.returns
returns c =
    let pairs = c.args.flow.now.pairs.items in
    let more = c.args.flow.now.more.items in
    let room = c.args.flow.now.room.items in
    let adders = c.args.labels.now.adders.items in
    let takers = c.args.labels.now.takers.items in
    let place = c.args.place in
    let start = c.requires.start in
    let led = own_led pairs more room adders takers place start in
    let pair = c.index.result.now.via in
    let pair_is : pair ≡ (label_at adders place).via = ap (λ (l : Label). l.via) (get_or_read adders place c.index.result.now (omega (arith, start.within, c.requires.adders)) c.index.ensures (record { rank = 0; via = 0 })) in
    let pair_within : pair < length pairs = subst (λ k. k < length pairs) (sym pair_is) led.via in
    let taker = c.index-2.result.now.to in
    let taker_is : taker ≡ (pair_at pairs pair).to = ap (λ (p : Amount). p.to) (get_or_read pairs pair c.index-2.result.now pair_within c.index-2.ensures (record { from = 0; to = 0; amount = pos 0 })) in
    let taker_within : taker < length more = subst (λ k. k < length more) (sym taker_is) (c.requires.flow.to pair pair_within) in
    let has : c.index-3.result.now ≡ value_at room taker = get_or_read room taker c.index-3.result.now (omega (arith, taker_within, c.requires.flow.count)) c.index-3.ensures (pos 0) in
    let low = c.requires.flow.low_room taker in
    let high = room_most pairs more room taker c.requires.flow in
    let same : to_z w64 (of_z w64 c.index-3.result.now) ≡ value_at room taker = omega (arith, ints) in
    let full = le_from (pos 0) (value_at room taker) (subst (λ z. int_lt (pos 0) z ≡ false) same c.if-index-gt0.false) in
    let other = c.index-4.result.now.via in
    let other_is : other ≡ (label_at takers taker).via = ap (λ (l : Label). l.via) (get_or_read takers taker c.index-4.result.now (omega (arith, taker_within, c.requires.takers)) c.index-4.ensures (record { rank = 0; via = 0 })) in
    let taker_there : taker ≡ (pair_at pairs (label_at adders place).via).to = taker_is ∙ ap (λ k. (pair_at pairs k).to) pair_is in
    let gets = full_led pairs more room adders takers place start (subst (λ k. value_at room k ≤ℤ pos 0) taker_there full) in
    let other_within : other < length pairs = subst (λ k. k < length pairs) (sym (other_is ∙ ap (λ k. (label_at takers k).via) taker_there)) gets.via in
    let next_is = ap (λ (p : Amount). p.from) (get_or_read pairs other c.index-5.result.now other_within c.index-5.ensures (record { from = 0; to = 0; amount = pos 0 })) in
    handed pairs more room adders takers place pair taker other c.index-5.result.now.from c.shift.new.flow.pairs.items c.shift.new.flow.more.items c.shift.new.flow.room.items
    start pair_is taker_is other_is next_is full c.shift.ensures
