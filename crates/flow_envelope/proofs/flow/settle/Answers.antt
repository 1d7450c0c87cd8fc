use Rattle.std.proofs.Common.{subst, arith}
use Rattle.std.proofs.lemmas.Int.{ints}
use Rattle.flow_envelope.specs.Pairs.{pair_at}
use Rattle.flow_envelope.specs.Flow.{IsCarried}
use Rattle.flow_envelope.proofs.Carrying.{more_most, cast_same, is_sent}
use Rattle.flow_envelope.proofs.flow.settle.Goals as goal

pub returns : goal.returns
returns c =
    let flow = c.args.flow.now in
    let later = c.carry.new.flow in
    let by = c.fitting-by.result in
    let some = c.fitting-by.ensures.some in
    let under = c.fitting-by.ensures.more in
    let most = more_most flow.pairs.items flow.more.items flow.room.items (pair_at flow.pairs.items c.args.place).from c.requires.flow in
    let low = c.requires.flow.amounts c.args.place in
    let same = cast_same by (omega (arith, ints)) (omega (arith, ints)) in
    let carried = subst (λ z. IsCarried c.args.place z flow.pairs.items flow.more.items flow.room.items later.pairs.items later.more.items later.room.items) same c.carry.ensures in
    is_sent c.args.place by flow.pairs.items flow.more.items flow.room.items later.pairs.items later.more.items later.room.items c.requires.flow c.requires.place carried
    (omega (arith, ints)) under c.fitting-by.ensures.room some
