use Rattle.std.proofs.Common.{◌≡◌, ◌+◌, ◌-◌, ◌<◌, false, not, count_by, drop, length, ap, sym, ◌∙◌, subst, arith}
use Rattle.decision_log.proofs.Places.{cut_at}
use Rattle.decision_log.proofs.Taking.{IsTaking, taking_kept, taking_out, less_left}
use Rattle.decision_log.proofs.steps.take_unflagged.Goals as goal

pub loop-place-preserved-then-keep-place : goal.loop-place-preserved-then-keep-place
loop-place-preserved-then-keep-place c =
    let place = c.loop-place.place - 1 in
    let next : c.loop-place.place ≡ place + 1 = omega arith in
    let keep = c.args.keep.now in
    let below : place < length keep = omega (arith, c.loop-place.invariant.taking.low) in
    let cut = cut_at keep place below in
    record {
      taking = taking_kept keep c.args.decisions.now.items place c.loop-place.decisions.items c.loop-place.taken.items c.requires.flags cut
          (sym (cut.is false) ∙ c.if-keep-place.true) below
          (subst (λ n. IsTaking keep c.args.decisions.now.items n c.loop-place.decisions.items c.loop-place.taken.items) next c.loop-place.invariant.taking);
      room = c.loop-place.invariant.room;
      capacity = c.loop-place.invariant.capacity;
    }

pub push_reserved-requires : goal.push_reserved-requires
push_reserved-requires c =
    let place = c.loop-place.place - 1 in
    let next : c.loop-place.place ≡ place + 1 = omega arith in
    let keep = c.args.keep.now in
    let below : place < length keep = omega (arith, c.loop-place.invariant.taking.low) in
    let cut = cut_at keep place below in
    let less = less_left keep place cut (sym (cut.is false) ∙ c.if-keep-place.false) in
    let count : length c.loop-place.taken.items ≡ count_by not (drop (place + 1) keep) =
    c.loop-place.invariant.taking.count ∙ ap (λ n. count_by not (drop n keep)) next in
    omega (arith, less, count, c.loop-place.invariant.room, c.loop-place.taken.ok.0)

pub loop-place-preserved : goal.loop-place-preserved
loop-place-preserved c =
    let place = c.loop-place.place - 1 in
    let next : c.loop-place.place ≡ place + 1 = omega arith in
    let keep = c.args.keep.now in
    let below : place < length keep = omega (arith, c.loop-place.invariant.taking.low) in
    let cut = cut_at keep place below in
    let decisions = c.loop-place.decisions.items in
    let old = c.args.decisions.now.items in
    let taken = c.loop-place.taken.items in
    let out = taking_out keep old place decisions taken c.remove-decision.result c.requires.flags cut
    (sym (cut.is false) ∙ c.if-keep-place.false) below (sym c.remove-decision.ensures.value)
    (subst (λ n. IsTaking keep old n decisions taken) next c.loop-place.invariant.taking) in
    record {
      taking = rw (c.remove-decision.ensures.items, c.push_reserved.ensures.items) out;
      room = omega (arith, c.loop-place.invariant.room, c.push_reserved.ensures.capacity);
      capacity = c.remove-decision.ensures.capacity ∙ c.loop-place.invariant.capacity;
    }
