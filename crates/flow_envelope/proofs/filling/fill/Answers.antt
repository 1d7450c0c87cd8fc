use Rattle.std.proofs.Common.{arith}
use Rattle.std.proofs.lemmas.Int.{ints}
use Rattle.flow_envelope.proofs.Leading.{value_sum-low}
use Rattle.flow_envelope.proofs.filling.fill.Goals as goal

pub loop-start-smaller : goal.loop-start-smaller
loop-start-smaller c =
    let low = value_sum-low c.send.new.flow.more.items c.send.ensures.flow.low_more in
    let less = c.send.ensures.less in
    omega (arith, ints)
