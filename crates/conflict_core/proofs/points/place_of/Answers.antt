use Rattle.std.proofs.Common.{◌≡◌, ◌+◌, ◌-◌, ◌/◌, ◌<◌, Some, length, drop, refl, sym, subst, arith}
use Rattle.std.specs.Prelude.{Contains, slice_get}
use Rattle.std.proofs.lemmas.Bool.{both_ways}
use Rattle.std.proofs.lemmas.Option.{slice_get_read}
use Rattle.eu_name.proofs.Ordered.{contains_none}
use Rattle.conflict_core.proofs.Ordering.{none_behind, lower_to_next, upper_from}
use Rattle.conflict_core.proofs.points.place_of.Goals as goal

pub loop-low-init : goal.loop-low-init
loop-low-init c = record {
  apart = omega arith;
  within = omega arith;
  lower = λ other there. absurd (contains_none other there);
  upper = λ other there before. none_behind c.args.points.now other there;
}

pub loop-low-preserved-then-is_before : goal.loop-low-preserved-then-is_before
loop-low-preserved-then-is_before c =
    let points = c.args.points.now in
    let middle = c.loop-low.low + (c.loop-low.high - c.loop-low.low) / 2 in
    let within : middle < length points = omega (arith, c.loop-low.invariant.within, c.loop-low-test.true) in
    let found = c.index-points-middle.result in
    let at : slice_get points middle ≡ Some found = slice_get_read points (length points) middle found refl within c.index-points-middle.is in
    record {
      apart = omega (arith, c.loop-low-test.true);
      within = c.loop-low.invariant.within;
      lower = lower_to_next points c.args.point.now middle found c.requires.order at (c.is_before.ensures.0 c.if-is_before.true);
      upper = c.loop-low.invariant.upper;
    }

pub loop-low-preserved : goal.loop-low-preserved
loop-low-preserved c =
    let points = c.args.points.now in
    let middle = c.loop-low.low + (c.loop-low.high - c.loop-low.low) / 2 in
    let within : middle < length points = omega (arith, c.loop-low.invariant.within, c.loop-low-test.true) in
    let found = c.index-points-middle.result in
    let at : slice_get points middle ≡ Some found = slice_get_read points (length points) middle found refl within c.index-points-middle.is in
    record {
      apart = omega (arith, c.loop-low-test.true);
      within = omega (arith, c.loop-low.invariant.within, c.loop-low-test.true);
      lower = c.loop-low.invariant.lower;
      upper = upper_from points c.args.point.now middle found c.requires.order at (λ before. both_ways c.is_before.result c.if-is_before.false (c.is_before.ensures.1 before));
    }

pub returns : goal.returns
returns c =
    let same : c.loop-low.high ≡ c.loop-low.low = omega (arith, c.loop-low-test.false, c.loop-low.invariant.apart) in
    record {
      within = omega (arith, c.loop-low.invariant.within, c.loop-low.invariant.apart);
      lower = c.loop-low.invariant.lower;
      upper = λ other there. c.loop-low.invariant.upper other (subst (λ place. Contains (drop place c.args.points.now) other) (sym same) there);
    }
