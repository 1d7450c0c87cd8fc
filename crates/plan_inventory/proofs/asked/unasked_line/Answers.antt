use Rattle.std.proofs.Common.{length, ap, arith}
use Rattle.eu_name.proofs.Members.{get_below}
use Rattle.plan_defs.specs.Valid.{IsAsked}
use Rattle.plan_values.proofs.Bisecting.{read_line}
use Rattle.plan_inventory.proofs.Sweeping.{one_more_line}
use Rattle.plan_inventory.proofs.asked.unasked_line.Goals as goal

pub loop-place-init : goal.loop-place-init
loop-place-init c = record {
  before = λ earlier other less at. absurd (omega (arith, less));
  asking = c.new-asking.ensures c.args.model.now c.args.plan.now;
  own = c.new-own.ensures c.args.model.now c.args.plan.now;
}

pub returns-then-not-is_asked : goal.returns-then-not-is_asked
returns-then-not-is_asked c = record {
  line = c.line-item.result;
  at = read_line c.args.plan.now c.as_slice-line-items.result.now c.loop-place.place c.line-item.result c.as_slice-line-items.ensures c.loop-place-test.true c.line-item.is;
  fails = c.if-not-is_asked.ensures.asked;
  before = c.loop-place.invariant.before;
}

pub loop-place-preserved : goal.loop-place-preserved
loop-place-preserved c = record {
  before = one_more_line c.args.model.now c.args.plan.now (IsAsked c.args.model.now c.args.plan.now) c.loop-place.place c.line-item.result
      (read_line c.args.plan.now c.as_slice-line-items.result.now c.loop-place.place c.line-item.result c.as_slice-line-items.ensures c.loop-place-test.true c.line-item.is)
      c.loop-place.invariant.before c.if-not-is_asked.ensures.asked;
  asking = c.if-not-is_asked.ensures.asking;
  own = c.if-not-is_asked.ensures.own;
}

pub returns : goal.returns
returns c = λ place line at.
    c.loop-place.invariant.before place line
    (omega (arith, get_below c.args.plan.now.lines place line at, c.loop-place-test.false, ap length c.as_slice-line-items.ensures)) at
