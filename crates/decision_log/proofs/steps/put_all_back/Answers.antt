use Rattle.std.proofs.Common.{ap, sym, ◌∙◌, subst, length, arith}
use Rattle.std.proofs.lemmas.List.Edits.{length-insert}
use Rattle.decision_log.specs.Kept.{put_back, HavePlaces}
use Rattle.decision_log.proofs.Places.{places_left, put_back-last}
use Rattle.decision_log.proofs.steps.put_all_back.Goals as goal

pub insert_in_room-requires-clause-place : goal.insert_in_room-requires-clause-place
insert_in_room-requires-clause-place c =
    (places_left c.pop.new.self.items c.in-Some.field-0 c.loop-place.decisions.items
    (subst (λ taken. HavePlaces taken c.loop-place.decisions.items) c.in-Some.ensures.items c.loop-place.invariant.places)).0

pub loop-place-preserved : goal.loop-place-preserved
loop-place-preserved c =
    let more = c.pop.new.self.items in
    let last = c.in-Some.field-0 in
    let decisions = c.loop-place.decisions.items in
    let left = places_left more last decisions (subst (λ taken. HavePlaces taken decisions) c.in-Some.ensures.items c.loop-place.invariant.places) in
    let longer = length-insert decisions last.place last.decision left.0 in
    record {
      back = ap (put_back more) c.insert_in_room.ensures.inserted ∙ sym (put_back-last more last decisions)
          ∙ ap (λ taken. put_back taken decisions) (sym c.in-Some.ensures.items) ∙ c.loop-place.invariant.back;
      places = subst (HavePlaces more) (sym c.insert_in_room.ensures.inserted) left.1;
      room = omega (
        arith,
        c.loop-place.invariant.room,
        longer,
        ap length c.insert_in_room.ensures.inserted,
        c.in-Some.ensures.len,
        c.insert_in_room.new.decisions.ok.0,
        c.loop-place.decisions.ok.0,
        c.insert_in_room.ensures.capacity,
      );
      capacity = c.insert_in_room.ensures.capacity ∙ c.loop-place.invariant.capacity;
    }
