use Rattle.std.proofs.Common.{◌+◌, ◌-◌, ◌/◌, ◌<◌, length, sym, arith}
use Rattle.plan_values.specs.Keys.{key_name}
use Rattle.plan_values.proofs.Bisecting.{read_line, all_later, all_earlier, none_named}
use Rattle.plan_values.proofs.lines.place_of.Goals as goal

pub returns-in-Equal : goal.returns-in-Equal
returns-in-Equal c =
    let middle = c.loop-low.low + (c.loop-low.high - c.loop-low.low) / 2 in (
      c.index-lines-middle.result,
      read_line c.args.plan.now c.as_slice-lines.result.now middle c.index-lines-middle.result c.as_slice-lines.ensures
          (omega (arith, c.loop-low.invariant.within, c.loop-low-test.true)) c.index-lines-middle.is,
      sym (c.in-Equal.ensures),
    )

pub loop-low-preserved-in-Less : goal.loop-low-preserved-in-Less
loop-low-preserved-in-Less c =
    let middle = c.loop-low.low + (c.loop-low.high - c.loop-low.low) / 2 in
    let within : middle < length c.as_slice-lines.result.now = omega (arith, c.loop-low.invariant.within, c.loop-low-test.true) in
    let at = read_line c.args.plan.now c.as_slice-lines.result.now middle c.index-lines-middle.result c.as_slice-lines.ensures within c.index-lines-middle.is in
    record {
      within = omega (arith, within);
      lower = c.loop-low.invariant.lower;
      upper = all_later c.args.plan.now c.requires (key_name c.args.key) middle c.index-lines-middle.result at (c.in-Less.ensures);
    }

pub loop-low-preserved : goal.loop-low-preserved
loop-low-preserved c =
    let middle = c.loop-low.low + (c.loop-low.high - c.loop-low.low) / 2 in
    let within : middle < length c.as_slice-lines.result.now = omega (arith, c.loop-low.invariant.within, c.loop-low-test.true) in
    let at = read_line c.args.plan.now c.as_slice-lines.result.now middle c.index-lines-middle.result c.as_slice-lines.ensures within c.index-lines-middle.is in
    record {
      within = c.loop-low.invariant.within;
      lower = all_earlier c.args.plan.now c.requires (key_name c.args.key) middle c.index-lines-middle.result at (c.in-Greater.ensures);
      upper = c.loop-low.invariant.upper;
    }

pub returns : goal.returns
returns c = none_named c.args.plan.now c.requires (key_name c.args.key) c.loop-low.low c.loop-low.high c.loop-low-test.false c.loop-low.invariant.lower c.loop-low.invariant.upper
