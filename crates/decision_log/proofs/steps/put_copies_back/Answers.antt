use Rattle.std.proofs.Common.{◌≡◌, ap, sym, ◌∙◌, subst, insert, arith}
use Rattle.decision_log.specs.Kept.{put_back, HavePlaces}
use Rattle.decision_log.proofs.Places.{places_left, put_back-last}
use Rattle.decision_log.proofs.steps.put_copies_back.Goals as goal

pub insert-requires : goal.insert-requires
insert-requires c =
    let decisions = c.loop-last.decisions in
    let left = places_left c.in-Some.more.now c.in-Some.last.now decisions.items
    (subst (λ taken. HavePlaces taken decisions.items) c.in-Some.ensures.cases.0 c.loop-last.invariant.places) in
    omega (arith, left.0, decisions.ok.0)

pub loop-last-preserved : goal.loop-last-preserved
loop-last-preserved c =
    let more = c.in-Some.more.now in
    let last = c.in-Some.last.now in
    let decisions = c.loop-last.decisions.items in
    let left = places_left more last decisions (subst (λ taken. HavePlaces taken decisions) c.in-Some.ensures.cases.0 c.loop-last.invariant.places) in
    let inserted : c.insert.new.self.items ≡ insert decisions last.place last.decision =
    c.in_ok-insert.ensures.items ∙ ap (insert decisions last.place) c.in_ok-copy.ensures in
    record {
      back = ap (put_back more) inserted ∙ sym (put_back-last more last decisions)
          ∙ ap (λ taken. put_back taken decisions) (sym c.in-Some.ensures.cases.0) ∙ c.loop-last.invariant.back;
      places = subst (HavePlaces more) (sym inserted) left.1;
    }
