use Rattle.std.proofs.Common.{Some, refl, sym, subst, w32}
use Rattle.std.proofs.lemmas.Int.{to_z-of_z}
use Rattle.db_posting.proofs.Storing.{only_both, marks_same, marks_both}
use Rattle.db_fixpoint.specs.Turns.{FindsTimeline}
use Rattle.db_fixpoint.proofs.Sharing.{posts_alone, finds_on, times_on, place_on, turns_begin, turns_next, turns_end}
use Rattle.db_fixpoint.proofs.turns.take_turns_among.Goals as goal

pub loop-other-init : goal.loop-other-init
loop-other-init c = record {
  turns = turns_begin c.args.model.now c.args.store.now c.args.place c.args.others.now;
  only = refl;
  marks = marks_same c.args.store.now;
}

pub take_turns_at-requires-clause-times : goal.take_turns_at-requires-clause-times
take_turns_at-requires-clause-times c = times_on c.args.store.now c.loop-other.store (posts_alone c.args.store.now c.loop-other.store c.loop-other.invariant.only) c.requires.times

pub take_turns_at-requires-clause-one : goal.take_turns_at-requires-clause-one
take_turns_at-requires-clause-one c = place_on c.args.store.now c.loop-other.store (posts_alone c.args.store.now c.loop-other.store c.loop-other.invariant.only) c.args.place c.requires.place

pub take_turns_at-requires-clause-on : goal.take_turns_at-requires-clause-on
take_turns_at-requires-clause-on c =
    let cast = to_z-of_z w32 c.args.timeline c.ranges.timeline in
    subst (λ timeline. FindsTimeline c.args.model.now c.loop-other.store c.args.place (Some timeline)) (sym cast)
    (finds_on c.args.model.now c.args.store.now c.loop-other.store c.args.place (Some c.args.timeline) (posts_alone c.args.store.now c.loop-other.store c.loop-other.invariant.only) c.requires.on)

pub loop-other-preserved : goal.loop-other-preserved
loop-other-preserved c =
    let step = c.in_ok-take_turns_at.ensures in
    record {
      turns = turns_next c.args.model.now c.args.store.now c.args.place c.args.others.now c.loop-other.other-index c.loop-other-test.true c.loop-other.store
          c.take_turns_at.new.store c.loop-other.invariant.only c.loop-other.invariant.turns step.turns;
      only = only_both c.args.store.now c.loop-other.store c.take_turns_at.new.store c.loop-other.invariant.only step.only;
      marks = marks_both c.args.store.now c.loop-other.store c.take_turns_at.new.store c.loop-other.invariant.marks step.marks;
    }

pub returns-clause-turns : goal.returns-clause-turns
returns-clause-turns c =
    turns_end c.args.model.now c.args.store.now c.args.place c.args.others.now c.loop-other.other-index c.loop-other-test.false c.loop-other.store
    c.loop-other.invariant.turns
