use Rattle.std.proofs.Common.{below_more, arith}
use Rattle.plan_inventory.proofs.bases.are_params_declared.Goals as goal

pub returns-then-not-is_declared_in : goal.returns-then-not-is_declared_in
returns-then-not-is_declared_in c = λ all.
    let there = c.count_params-number-end.ensures.there c.loop-number.number c.loop-number-test.true in
    c.if-not-is_declared_in.ensures (all c.loop-number.number there.0 there.1)

pub loop-number-preserved : goal.loop-number-preserved
loop-number-preserved c = below_more _ _ c.loop-number.invariant c.if-not-is_declared_in.ensures

pub returns : goal.returns
returns c = λ number variable has. c.loop-number.invariant number (omega (arith, c.count_params-number-end.ensures.below number variable has, c.loop-number-test.false))
