use Rattle.std.proofs.Common.{◌≡◌, ℕ, ◌+◌, ◌-◌, ◌<◌, length, ap, subst, arith}
use Rattle.plan_values.proofs.Bisecting.{read_line}
use Rattle.plan_check.specs.ByObject.{AreLinked}
use Rattle.plan_check.proofs.by_object.LinesByObject.of.Goals as goal

pub loop-place-init : goal.loop-place-init
loop-place-init c =
    let counted : c.len.result ≡ length c.args.model.now.objects = omega (arith, c.len.ensures) in
    record {
      within = omega (arith, ap length c.as_slice-lines.ensures);
      linked = subst (λ (n : ℕ). AreLinked c.args.plan.now.lines n (length c.as_slice-lines.result.now) c.in_ok-by_object.by_object) counted
          (c.in_ok-by_object.ensures c.args.plan.now.lines (omega (arith, ap length c.as_slice-lines.ensures)));
    }

pub offset_bounds-lines-place : goal.offset_bounds-lines-place
offset_bounds-lines-place c = omega (arith, c.requires.few_lines, c.loop-place.invariant.within, c.loop-place-test.true)

pub bounds-lines-place : goal.bounds-lines-place
bounds-lines-place c = omega (arith, ap length c.as_slice-lines.ensures, c.loop-place.invariant.within, c.loop-place-test.true)

pub overflow_cast-place : goal.overflow_cast-place
overflow_cast-place c = omega (arith, c.requires.few_lines, c.loop-place.invariant.within, c.loop-place-test.true)

pub link-requires : goal.link-requires
link-requires c = omega (arith, c.loop-place.invariant.linked.places, c.loop-place.invariant.within, c.loop-place-test.true)

pub loop-place-preserved : goal.loop-place-preserved
loop-place-preserved c =
    let listed = c.args.plan.now.lines in
    let below : c.loop-place.place - 1 < length c.as_slice-lines.result.now = omega (arith, ap length c.as_slice-lines.ensures, c.loop-place.invariant.within, c.loop-place-test.true) in
    let at = read_line c.args.plan.now c.as_slice-lines.result.now (c.loop-place.place - 1) c.index-lines-place.result c.as_slice-lines.ensures below c.index-lines-place.is in
    let next : c.loop-place.place ≡ c.loop-place.place - 1 + 1 = omega (arith, c.loop-place-test.true) in
    record {
      within = omega (arith, c.loop-place.invariant.within);
      linked = c.link.ensures listed (length c.args.model.now.objects) at (subst (λ (n : ℕ). AreLinked listed (length c.args.model.now.objects) n c.loop-place.by_object) next c.loop-place.invariant.linked);
    }

pub returns : goal.returns
returns c =
    let none : c.loop-place.place ≡ 0 = omega (arith, c.loop-place-test.false) in
    subst (λ (n : ℕ). AreLinked c.args.plan.now.lines (length c.args.model.now.objects) n c.loop-place.by_object) none c.loop-place.invariant.linked
