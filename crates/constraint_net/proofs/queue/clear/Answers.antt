use Rattle.std.proofs.Common.{refl, ◌∙◌}
use Rattle.constraint_net.proofs.Turns.{taken_off}
use Rattle.constraint_net.proofs.queue.clear.Goals as goal

pub loop-number-smaller : goal.loop-number-smaller
loop-number-smaller c =
    let loop = c.loop-number in
    (taken_off _ loop.queue loop.queue c.take-taken.new.self c.take-taken.result c.in-Some.ensures.first refl c.take-taken.ensures.taken).0

pub loop-number-preserved : goal.loop-number-preserved
loop-number-preserved c = c.take-taken.ensures.room ∙ c.loop-number.invariant

pub returns-clause-items : goal.returns-clause-items
returns-clause-items c = c.in_default.ensures.first

pub returns-clause-room : goal.returns-clause-room
returns-clause-room c = c.loop-number.invariant
