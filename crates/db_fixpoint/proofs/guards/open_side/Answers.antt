-- Each term is an argument, and the side is the one that opens.
use Rattle.std.proofs.Common.{refl}
use Rattle.db_posting.specs.Origins.{content_now, origin_context}
use Rattle.db_fixpoint.proofs.Truths.{guard_arguments, side_found}
use Rattle.db_fixpoint.proofs.guards.open_side.Goals as goal

pub truth_of-requires-clause-one : goal.truth_of-requires-clause-one
truth_of-requires-clause-one c =
    (guard_arguments c.args.model.now c.args.store.now c.is_sound.ensures (origin_context (content_now c.args.store.now).tokens c.args.origin) c.args.guard
    c.parts_of-equal.result.one c.parts_of-equal.result.other c.parts_of-equal.ensures.one c.parts_of-equal.ensures.other c.requires.one_stands c.requires.other_stands
    c.in_ok-one.one c.in_ok-other.other c.in_ok-one.ensures c.in_ok-other.ensures c.net.result.now c.net.ensures).0

pub truth_of-requires-clause-other : goal.truth_of-requires-clause-other
truth_of-requires-clause-other c =
    (guard_arguments c.args.model.now c.args.store.now c.is_sound.ensures (origin_context (content_now c.args.store.now).tokens c.args.origin) c.args.guard
    c.parts_of-equal.result.one c.parts_of-equal.result.other c.parts_of-equal.ensures.one c.parts_of-equal.ensures.other c.requires.one_stands c.requires.other_stands
    c.in_ok-one.one c.in_ok-other.other c.in_ok-one.ensures c.in_ok-other.ensures c.net.result.now c.net.ensures).1

pub returns : goal.returns
returns c = λ decisions states.
    side_found c.args.model.now c.args.store.now c.is_sound.ensures (origin_context (content_now c.args.store.now).tokens c.args.origin) c.args.guard
    c.parts_of-equal.result.one c.parts_of-equal.result.other c.parts_of-equal.ensures.one c.parts_of-equal.ensures.other c.requires.one_stands c.requires.other_stands
    c.in_ok-one.one c.in_ok-other.other c.in_ok-one.ensures c.in_ok-other.ensures c.net.result.now c.net.ensures decisions
    ((c.if-not-both_count.ensures decisions states).0 refl) c.parts_of-equal.result.equal c.parts_of-equal.ensures.equal c.truth_of.result c.truth_of.ensures
    c.side_of.result c.side_of.ensures
