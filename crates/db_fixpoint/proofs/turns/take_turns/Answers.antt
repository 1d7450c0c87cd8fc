use Rattle.std.proofs.Common.{◌≡◌, Some, subst, arith}
use Rattle.std.proofs.lemmas.Int.{ints}
use Rattle.db_posting.proofs.Storing.{times_stay}
use Rattle.db_fixpoint.specs.Turns.{FindsTimeline}
use Rattle.db_fixpoint.proofs.Sharing.{loose_turns, other_turns, turns_taken}
use Rattle.db_fixpoint.proofs.turns.take_turns.Goals as goal

pub returns-in_default-clause-turns : goal.returns-in_default-clause-turns
returns-in_default-clause-turns c = loose_turns c.args.model.now c.args.store.now c.is_sound.ensures c.args.one c.args.other c.in_default.ensures

pub returns-then-found-timeline-clause-turns : goal.returns-then-found-timeline-clause-turns
returns-then-found-timeline-clause-turns c =
    other_turns c.args.model.now c.args.store.now c.is_sound.ensures c.args.one c.args.other c.args.timeline c.requires.on c.in-Some.found c.in-Some.ensures
    (λ same. absurd (omega (arith, ints, same, c.if-found-timeline.true)))

pub post_turn-requires-2-clause-one : goal.post_turn-requires-2-clause-one
post_turn-requires-2-clause-one c = times_stay c.args.store.now c.post_turn.new.store c.in_ok-post_turn.ensures.only c.args.other c.requires.other

pub returns-clause-turns : goal.returns-clause-turns
returns-clause-turns c =
    let same : c.in-Some.found ≡ c.args.timeline = omega (arith, ints, c.if-found-timeline.false) in
    let there = subst (λ timeline. FindsTimeline c.args.model.now c.args.store.now c.args.other (Some timeline)) same c.in-Some.ensures in
    turns_taken c.args.model.now c.args.store.now c.is_sound.ensures c.args.one c.args.other c.args.timeline c.requires.on there c.requires.one.0 c.requires.other.0
    c.if-one-other.false c.post_turn.new.store c.post_turn-2.new.store c.in_ok-post_turn.ensures.only c.in_ok-post_turn.ensures.turn c.post_turn-2.result c.post_turn-2.ensures.turn
