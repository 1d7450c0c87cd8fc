use Rattle.std.proofs.Common.{arith}
use Rattle.std.proofs.lemmas.Int.{ints}
use Rattle.narrow_core.proofs.Outcomes.{outcomes_both, outcomes_hold, outcomes_fail, outcomes_none}
use Rattle.narrow_core.proofs.tested.are_outcomes.Goals as goal

pub returns-then-may_fail : goal.returns-then-may_fail
returns-then-may_fail c = outcomes_both c.args.domain.now c.args.may_hold c.args.may_fail c.if-may_hold.true c.if-may_fail.true

pub returns-then-may_hold : goal.returns-then-may_hold
returns-then-may_hold c =
    outcomes_hold c.args.domain.now c.args.may_hold c.args.may_fail c.has_beside_one.result c.has_beside_one.ensures.domain c.if-may_hold.true c.if-may_fail.false c.has_beside_one.ensures.beside

pub returns-then-may_fail-2 : goal.returns-then-may_fail-2
returns-then-may_fail-2 c =
    outcomes_fail c.args.domain.now c.args.may_hold c.args.may_fail c.is_tested.result _ (omega (arith, ints)) c.if-may_hold.false c.if-may_fail-2.true c.is_tested.ensures

pub returns : goal.returns
returns c = outcomes_none c.args.domain.now c.args.may_hold c.args.may_fail c.lo-least.ensures.domain c.if-may_hold.false c.if-may_fail-2.false
