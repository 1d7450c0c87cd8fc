use Rattle.std.proofs.Common.{subst, arith}
use Rattle.std.proofs.lemmas.Int.{ints}
use Rattle.flow_envelope.specs.Pairs.{pair_at}
use Rattle.flow_envelope.specs.Flow.{IsCarried}
use Rattle.flow_envelope.proofs.Carrying.{more_most, cast_same, cast_back, back_flow, on_some, on_more, on_room, is_shifted}
use Rattle.flow_envelope.proofs.flow.shift.Goals as goal

pub carry-requires-clause-more : goal.carry-requires-clause-more
carry-requires-clause-more c =
    let flow = c.args.flow.now in
    let some = c.movable-by.ensures.some in
    let under = c.movable-by.ensures.more in
    let most = more_most flow.pairs.items flow.more.items flow.room.items (pair_at flow.pairs.items c.args.place).from c.requires.flow in
    let low = c.requires.flow.low_more (pair_at flow.pairs.items c.args.other).from in
    omega (arith, ints)

pub carry-requires-clause-room : goal.carry-requires-clause-room
carry-requires-clause-room c =
    let flow = c.args.flow.now in
    let some = c.movable-by.ensures.some in
    let under = c.movable-by.ensures.more in
    let most = more_most flow.pairs.items flow.more.items flow.room.items (pair_at flow.pairs.items c.args.place).from c.requires.flow in
    let low = c.requires.flow.low_room (pair_at flow.pairs.items c.args.other).to in
    omega (arith, ints)

pub carry-requires-2-clause-flow : goal.carry-requires-2-clause-flow
carry-requires-2-clause-flow c =
    let flow = c.args.flow.now in
    let later = c.carry.new.flow in
    let by = c.movable-by.result in
    let some = c.movable-by.ensures.some in
    let under = c.movable-by.ensures.more in
    let most = more_most flow.pairs.items flow.more.items flow.room.items (pair_at flow.pairs.items c.args.place).from c.requires.flow in
    let back = cast_back by (omega (arith, ints)) (omega (arith, ints)) in
    let first = subst (λ z. IsCarried c.args.other z flow.pairs.items flow.more.items flow.room.items later.pairs.items later.more.items later.room.items) back c.carry.ensures in
    back_flow c.args.place c.args.other by flow.pairs.items flow.more.items flow.room.items later.pairs.items later.more.items later.room.items later.pairs.items later.more.items later.room.items
    c.requires.flow c.requires.place c.requires.other c.requires.same some under c.movable-by.ensures.amount first

pub carry-requires-2-clause-some : goal.carry-requires-2-clause-some
carry-requires-2-clause-some c =
    let flow = c.args.flow.now in
    let later = c.carry.new.flow in
    let by = c.movable-by.result in
    let some = c.movable-by.ensures.some in
    let under = c.movable-by.ensures.more in
    let most = more_most flow.pairs.items flow.more.items flow.room.items (pair_at flow.pairs.items c.args.place).from c.requires.flow in
    let back = cast_back by (omega (arith, ints)) (omega (arith, ints)) in
    let first = subst (λ z. IsCarried c.args.other z flow.pairs.items flow.more.items flow.room.items later.pairs.items later.more.items later.room.items) back c.carry.ensures in
    let same = cast_same by (omega (arith, ints)) (omega (arith, ints)) in
    let on = on_some c.args.place c.args.other by flow.pairs.items flow.more.items flow.room.items later.pairs.items later.more.items later.room.items later.pairs.items later.more.items later.room.items
    c.requires.flow c.requires.place c.requires.other c.requires.same some under c.movable-by.ensures.amount first in
    omega (arith, ints)

pub carry-requires-2-clause-more : goal.carry-requires-2-clause-more
carry-requires-2-clause-more c =
    let flow = c.args.flow.now in
    let later = c.carry.new.flow in
    let by = c.movable-by.result in
    let some = c.movable-by.ensures.some in
    let under = c.movable-by.ensures.more in
    let most = more_most flow.pairs.items flow.more.items flow.room.items (pair_at flow.pairs.items c.args.place).from c.requires.flow in
    let back = cast_back by (omega (arith, ints)) (omega (arith, ints)) in
    let first = subst (λ z. IsCarried c.args.other z flow.pairs.items flow.more.items flow.room.items later.pairs.items later.more.items later.room.items) back c.carry.ensures in
    let same = cast_same by (omega (arith, ints)) (omega (arith, ints)) in
    let on = on_more c.args.place c.args.other by flow.pairs.items flow.more.items flow.room.items later.pairs.items later.more.items later.room.items later.pairs.items later.more.items later.room.items
    c.requires.flow c.requires.place c.requires.other c.requires.same some under c.movable-by.ensures.amount first in
    omega (arith, ints)

pub carry-requires-2-clause-room : goal.carry-requires-2-clause-room
carry-requires-2-clause-room c =
    let flow = c.args.flow.now in
    let later = c.carry.new.flow in
    let by = c.movable-by.result in
    let some = c.movable-by.ensures.some in
    let under = c.movable-by.ensures.more in
    let most = more_most flow.pairs.items flow.more.items flow.room.items (pair_at flow.pairs.items c.args.place).from c.requires.flow in
    let back = cast_back by (omega (arith, ints)) (omega (arith, ints)) in
    let first = subst (λ z. IsCarried c.args.other z flow.pairs.items flow.more.items flow.room.items later.pairs.items later.more.items later.room.items) back c.carry.ensures in
    let same = cast_same by (omega (arith, ints)) (omega (arith, ints)) in
    let on = on_room c.args.place c.args.other by flow.pairs.items flow.more.items flow.room.items later.pairs.items later.more.items later.room.items later.pairs.items later.more.items later.room.items
    c.requires.flow c.requires.place c.requires.other c.requires.same some under c.movable-by.ensures.amount first in
    omega (arith, ints)

pub returns : goal.returns
returns c =
    let flow = c.args.flow.now in
    let later = c.carry.new.flow in
    let last = c.carry-2.new.flow in
    let by = c.movable-by.result in
    let some = c.movable-by.ensures.some in
    let under = c.movable-by.ensures.more in
    let most = more_most flow.pairs.items flow.more.items flow.room.items (pair_at flow.pairs.items c.args.place).from c.requires.flow in
    let back = cast_back by (omega (arith, ints)) (omega (arith, ints)) in
    let first = subst (λ z. IsCarried c.args.other z flow.pairs.items flow.more.items flow.room.items later.pairs.items later.more.items later.room.items) back c.carry.ensures in
    let same = cast_same by (omega (arith, ints)) (omega (arith, ints)) in
    let second = subst (λ z. IsCarried c.args.place z later.pairs.items later.more.items later.room.items last.pairs.items last.more.items last.room.items) same c.carry-2.ensures in
    is_shifted c.args.place c.args.other by flow.pairs.items flow.more.items flow.room.items later.pairs.items later.more.items later.room.items last.pairs.items last.more.items last.room.items
    c.requires.flow c.requires.place c.requires.other c.requires.same some under c.movable-by.ensures.amount first second
