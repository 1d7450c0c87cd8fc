use Rattle.std.proofs.Common.{◌≡◌, ◌<◌, pos, length, ap, arith}
use Rattle.std.proofs.lemmas.Int.{ints}
use Rattle.std.proofs.lemmas.List.{get_or_read}
use Rattle.flow_envelope.specs.declared.change.Amount.{Amount}
use Rattle.flow_envelope.specs.Pairs.{pair_at}
use Rattle.flow_envelope.proofs.Carrying.{amount_most, more_most, room_most, carried_from}
use Rattle.flow_envelope.proofs.flow.carry.Goals as goal

pub overflow_add-amount : goal.overflow_add-amount
overflow_add-amount c =
    let pairs = c.args.flow.now.pairs.items in
    let more = c.args.flow.now.more.items in
    let room = c.args.flow.now.room.items in
    let pair : c.index-pair.result.now ≡ pair_at pairs c.args.place = get_or_read pairs c.args.place c.index-pair.result.now c.requires.place c.index-pair.ensures (record { from = 0; to = 0; amount = pos 0 }) in
    let amount = ap (λ (p : Amount). p.amount) pair in
    let low = c.requires.flow.amounts c.args.place in
    let high = amount_most pairs more room c.args.place c.requires.flow c.requires.place in
    let most = more_most pairs more room (pair_at pairs c.args.place).from c.requires.flow in
    let some = c.requires.some in
    let give = c.requires.more in
    omega (arith, ints)

pub overflow_sub-more : goal.overflow_sub-more
overflow_sub-more c =
    let pairs = c.args.flow.now.pairs.items in
    let more = c.args.flow.now.more.items in
    let room = c.args.flow.now.room.items in
    let pair : c.index-pair.result.now ≡ pair_at pairs c.args.place = get_or_read pairs c.args.place c.index-pair.result.now c.requires.place c.index-pair.ensures (record { from = 0; to = 0; amount = pos 0 }) in
    let within : c.index-pair.result.now.from < length more = omega (arith, c.requires.flow.from c.args.place c.requires.place, ap (λ (p : Amount). p.from) pair) in
    let value = get_or_read more c.index-pair.result.now.from c.index.result.now within c.index.ensures (pos 0) in
    let value_low = c.requires.flow.low_more c.index-pair.result.now.from in
    let value_high = more_most pairs more room c.index-pair.result.now.from c.requires.flow in
    let high = amount_most pairs more room c.args.place c.requires.flow c.requires.place in
    let most = more_most pairs more room (pair_at pairs c.args.place).from c.requires.flow in
    let some = c.requires.some in
    let give = c.requires.more in
    omega (arith, ints)

pub overflow_sub-room : goal.overflow_sub-room
overflow_sub-room c =
    let pairs = c.args.flow.now.pairs.items in
    let more = c.args.flow.now.more.items in
    let room = c.args.flow.now.room.items in
    let pair : c.index-pair.result.now ≡ pair_at pairs c.args.place = get_or_read pairs c.args.place c.index-pair.result.now c.requires.place c.index-pair.ensures (record { from = 0; to = 0; amount = pos 0 }) in
    let within : c.index-pair.result.now.to < length room = omega (arith, c.requires.flow.to c.args.place c.requires.place, c.requires.flow.count, ap (λ (p : Amount). p.to) pair) in
    let value = get_or_read room c.index-pair.result.now.to c.index-2.result.now within c.index-2.ensures (pos 0) in
    let value_low = c.requires.flow.low_room c.index-pair.result.now.to in
    let value_high = room_most pairs more room c.index-pair.result.now.to c.requires.flow in
    let high = amount_most pairs more room c.args.place c.requires.flow c.requires.place in
    let most = more_most pairs more room (pair_at pairs c.args.place).from c.requires.flow in
    let some = c.requires.some in
    let give = c.requires.more in
    omega (arith, ints)

pub returns : goal.returns
returns c =
    let pairs = c.args.flow.now.pairs.items in
    let more = c.args.flow.now.more.items in
    let room = c.args.flow.now.room.items in
    let x = c.index-pair.result.now in
    let pair : x ≡ pair_at pairs c.args.place = get_or_read pairs c.args.place x c.requires.place c.index-pair.ensures (record { from = 0; to = 0; amount = pos 0 }) in
    let amount = ap (λ (p : Amount). p.amount) pair in
    let from_within : x.from < length more = omega (arith, c.requires.flow.from c.args.place c.requires.place, ap (λ (p : Amount). p.from) pair) in
    let to_within : x.to < length room = omega (arith, c.requires.flow.to c.args.place c.requires.place, c.requires.flow.count, ap (λ (p : Amount). p.to) pair) in
    let has = get_or_read more x.from c.index.result.now from_within c.index.ensures (pos 0) in
    let gets = get_or_read room x.to c.index-2.result.now to_within c.index-2.ensures (pos 0) in
    let more_low = c.requires.flow.low_more x.from in
    let more_high = more_most pairs more room x.from c.requires.flow in
    let room_low = c.requires.flow.low_room x.to in
    let room_high = room_most pairs more room x.to c.requires.flow in
    let low = c.requires.flow.amounts c.args.place in
    let high = amount_most pairs more room c.args.place c.requires.flow c.requires.place in
    let most = more_most pairs more room (pair_at pairs c.args.place).from c.requires.flow in
    let some = c.requires.some in
    let give = c.requires.more in
    carried_from c.args.place c.args.by pairs more room x _ _ _ pair (omega (arith, ints)) (omega (arith, ints)) (omega (arith, ints))
