use Rattle.std.proofs.Common.{◌≡◌, ◌<◌, pos, ◌<ℤ◌, List, length, subst, sym, arith}
use Rattle.std.proofs.lemmas.Bool.{both_ways}
use Rattle.std.proofs.lemmas.List.{get_or_read}
use Rattle.temporal_core.specs.Satisfied.{value_at}
use Rattle.flow_envelope.specs.declared.change.Amount.{Amount}
use Rattle.flow_envelope.specs.Pairs.{pair_at}
use Rattle.flow_envelope.specs.Labels.{label_at, AreLabels, IsVisited}
use Rattle.flow_envelope.proofs.Leading.{grown_both, swept_more}
use Rattle.flow_envelope.proofs.labels.sweep.Goals as goal

pub loop-place-preserved : goal.loop-place-preserved
loop-place-preserved c =
    let pairs = c.args.flow.now.pairs.items in
    let more = c.args.flow.now.more.items in
    let room = c.args.flow.now.room.items in
    let first = c.args.labels.now in
    let before = c.loop-place.labels in
    let later = c.visit.new.labels in
    let place = c.loop-place.place in
    let slice = c.as_slice.ensures.value in
    let within : place < length pairs = omega (arith, c.args.flow.now.pairs.ok.0, c.loop-place-test.true) in
    let pair : c.index.result.now ≡ pair_at pairs place = get_or_read pairs place c.index.result.now within c.index.ensures (record { from = 0; to = 0; amount = pos 0 }) in
    record {
      grown = grown_both first.adders.items first.takers.items before.adders.items before.takers.items later.adders.items later.takers.items first.next before.next later.next c.loop-place.invariant.grown c.visit.ensures.grown;
      labels = subst (λ (list : List Amount). AreLabels list room later.adders.items later.takers.items later.next) slice
          (c.visit.ensures.labels room (subst (λ (list : List Amount). AreLabels list room before.adders.items before.takers.items before.next) (sym slice) c.loop-place.invariant.labels));
      swept = swept_more pairs more before.adders.items before.takers.items later.adders.items later.takers.items first.next before.next later.next place
          c.loop-place.invariant.grown.later c.visit.ensures.grown.later c.loop-place.invariant.swept
          (subst (λ (list : List Amount). IsVisited list place before.adders.items before.takers.items later.adders.items later.takers.items before.next later.next) slice c.visit.ensures.visited)
          (λ ranked has_more. both_ways c.is_start.result c.if-is_start.false (c.is_start.ensures.1
          (subst (λ (p : Amount). 0 < (label_at later.adders.items p.from).rank) (sym pair) ranked, subst (λ (p : Amount). pos 0 <ℤ value_at more p.from) (sym pair) has_more)));
    }
