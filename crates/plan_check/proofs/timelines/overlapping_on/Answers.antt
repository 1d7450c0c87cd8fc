use Rattle.std.proofs.Common.{◌≡◌, ◌+◌, length, refl, ap, arith}
use Rattle.plan_values.proofs.Bisecting.{read_line}
use Rattle.plan_check.proofs.Linking.{dealt, dealt_more, on_the_way, way_there, way_below, way_shorter}
use Rattle.plan_check.proofs.Turning.{pair_looked, pairs_first, pairs_next, pairs_all}
use Rattle.plan_check.proofs.timelines.overlapping_on.Goals as goal

pub loop-next-init : goal.loop-next-init
loop-next-init c =
    let listed = c.args.plan.now.lines in
    let count = length c.args.model.now.objects in
    let on = c.requires.on in
    let finds = c.after-next.ensures listed count on.0 c.requires.linked on.1 on.2 in
    let below = way_below listed listed on.0 c.args.first refl on.2 in
    let more = dealt_more listed on.0 (c.args.first + 1) c.after-next.result (omega arith) finds in
    record {
      on_the_way = λ object counted here. on_the_way listed object (c.args.first + 1) c.after-next.result (c.after-next.ensures listed count object c.requires.linked counted here);
      past = omega arith;
      kept = pairs_first c.args.model.now c.args.plan.now on.0 c.args.first on.2 c.after-next.result finds;
    }

pub bounds-lines-first : goal.bounds-lines-first
bounds-lines-first c = way_below c.args.plan.now.lines c.as_slice-lines.result.now c.requires.on.0 c.args.first c.as_slice-lines.ensures c.requires.on.2

pub bounds-lines-second : goal.bounds-lines-second
bounds-lines-second c =
    let listed = c.args.plan.now.lines in
    let on = c.requires.on in
    way_below listed c.as_slice-lines.result.now on.0 c.in-Some.second c.as_slice-lines.ensures (way_there listed on.0 c.in-Some.second c.loop-next.next c.in-Some.is (c.loop-next.invariant.on_the_way on.0 on.1 on.2))

pub returns-then-not-lines_take_turns : goal.returns-then-not-lines_take_turns
returns-then-not-lines_take_turns c =
    let listed = c.args.plan.now.lines in
    let same = c.as_slice-lines.ensures in
    let on = c.requires.on in
    let there = way_there listed on.0 c.in-Some.second c.loop-next.next c.in-Some.is (c.loop-next.invariant.on_the_way on.0 on.1 on.2) in
    let first = read_line c.args.plan.now c.as_slice-lines.result.now c.args.first c.index-lines-first.result same (way_below listed c.as_slice-lines.result.now on.0 c.args.first same on.2) c.index-lines-first.is in
    let second = read_line c.args.plan.now c.as_slice-lines.result.now c.in-Some.second c.index-lines-second.result same (way_below listed c.as_slice-lines.result.now on.0 c.in-Some.second same there) c.index-lines-second.is in
    let now : dealt (length listed) c.loop-next.next ≡ c.in-Some.second = ap (dealt (length listed)) c.in-Some.is in
    record {
      fails = λ kept. c.if-not-lines_take_turns.ensures (kept (omega (arith, now, c.loop-next.invariant.past)) c.index-lines-first.result c.index-lines-second.result first second);
      before = λ earlier less. c.loop-next.invariant.kept earlier (omega (arith, now, less));
    }

pub loop-next-smaller : goal.loop-next-smaller
loop-next-smaller c =
    let listed = c.args.plan.now.lines in
    let on = c.requires.on in
    let there = way_there listed on.0 c.in-Some.second c.loop-next.next c.in-Some.is (c.loop-next.invariant.on_the_way on.0 on.1 on.2) in
    way_shorter listed on.0 c.in-Some.second c.loop-next.next c.after-next-in-Some.result c.in-Some.is there
    (c.after-next-in-Some.ensures listed (length c.args.model.now.objects) on.0 c.requires.linked on.1 there)

pub loop-next-preserved : goal.loop-next-preserved
loop-next-preserved c =
    let listed = c.args.plan.now.lines in
    let count = length c.args.model.now.objects in
    let same = c.as_slice-lines.ensures in
    let on = c.requires.on in
    let there = way_there listed on.0 c.in-Some.second c.loop-next.next c.in-Some.is (c.loop-next.invariant.on_the_way on.0 on.1 on.2) in
    let finds = c.after-next-in-Some.ensures listed count on.0 c.requires.linked on.1 there in
    let below = way_below listed listed on.0 c.in-Some.second refl there in
    let first = read_line c.args.plan.now c.as_slice-lines.result.now c.args.first c.index-lines-first.result same (way_below listed c.as_slice-lines.result.now on.0 c.args.first same on.2) c.index-lines-first.is in
    let second = read_line c.args.plan.now c.as_slice-lines.result.now c.in-Some.second c.index-lines-second.result same (way_below listed c.as_slice-lines.result.now on.0 c.in-Some.second same there) c.index-lines-second.is in
    let now : dealt (length listed) c.loop-next.next ≡ c.in-Some.second = ap (dealt (length listed)) c.in-Some.is in
    let more = dealt_more listed on.0 (c.in-Some.second + 1) c.after-next-in-Some.result (omega (arith, below)) finds in
    record {
      on_the_way = λ object counted here.
          on_the_way listed object (c.in-Some.second + 1) c.after-next-in-Some.result
          (c.after-next-in-Some.ensures listed count object c.requires.linked counted (way_there listed object c.in-Some.second c.loop-next.next c.in-Some.is (c.loop-next.invariant.on_the_way object counted here)));
      past = omega (arith, now, more, c.loop-next.invariant.past);
      kept = pairs_next c.args.model.now c.args.plan.now on.0 c.args.first on.2 c.in-Some.second c.after-next-in-Some.result
          (λ earlier less. c.loop-next.invariant.kept earlier (omega (arith, now, less)))
          (pair_looked c.args.model.now c.args.plan.now c.requires.orderly c.args.first c.in-Some.second c.index-lines-first.result c.index-lines-second.result first second c.if-not-lines_take_turns.ensures) finds;
    }

pub returns : goal.returns
returns c =
    let listed = c.args.plan.now.lines in
    let on = c.requires.on in
    let now : dealt (length listed) c.loop-next.next ≡ length listed = ap (dealt (length listed)) c.in_default.is in
    pairs_all c.args.model.now c.args.plan.now on.0 c.args.first on.2 (λ second less. c.loop-next.invariant.kept second (omega (arith, now, less)))
