use Rattle.std.proofs.Common.{◌≡◌, List, length, pos, w64, to_z, of_z, sym, ap, subst, arith}
use Rattle.std.proofs.lemmas.Int.{ints}
use Rattle.std.proofs.lemmas.List.{length_push}
use Rattle.flow_envelope.specs.declared.certain.Certainty.{Certainty}
use Rattle.flow_envelope.specs.Sums.{change_at}
use Rattle.flow_envelope.specs.Certain.{IsCertainty, certain_at}
use Rattle.flow_envelope.proofs.Matching.{certain_push}
use Rattle.flow_envelope.proofs.certain.all_certain.Goals as goal

pub loop-change-preserved : goal.loop-change-preserved
loop-change-preserved c =
    let changes = c.args.changes.now in
    let index = c.loop-change.change-index in
    let before = c.loop-change.certain.items in
    record {
      count = omega (arith, ap (λ (list : List Certainty). length list) c.in_ok-push.ensures.items, length_push before c.certainty_of.result, c.loop-change.invariant.count);
      each = λ edges least greatest place within.
          let point = c.requires.changes index (record { point = 0; add = pos 0 }) c.loop-change-test.true in
          subst (λ (list : List Certainty). IsCertainty edges (to_z w64 (of_z w64 c.args.at)) (change_at changes place).point (certain_at list place)) (sym c.in_ok-push.ensures.items)
          (certain_push edges changes (to_z w64 (of_z w64 c.args.at)) before c.certainty_of.result index c.loop-change.invariant.count (c.loop-change.invariant.each edges least greatest)
          (c.certainty_of.ensures edges (change_at changes index).point (least.each (change_at changes index).point point.point) (greatest.each (change_at changes index).point point.point)) place within);
    }

pub returns : goal.returns
returns c = λ edges least greatest.
    let at : to_z w64 (of_z w64 c.args.at) ≡ c.args.at = omega (arith, ints) in
    record {
      count = omega (arith, c.loop-change.invariant.count, c.loop-change-test.false, c.loop-change.auto.change-index-end);
      each = λ place within. subst (λ z. IsCertainty edges z (change_at c.args.changes.now place).point (certain_at c.loop-change.certain.items place)) at
          (c.loop-change.invariant.each edges least greatest place (omega (arith, within, c.loop-change-test.false)));
    }
