use Rattle.std.proofs.Common.{length, Err, ap, arith}
use Rattle.std.proofs.lemmas.Result.{err_from_is_err_and}
use Rattle.db_fixpoint.proofs.Heeding.{keep_way, watcher_at, heeded_none, heeded_more, heeded_fails}
use Rattle.db_posting.proofs.Storing.{marks_both}
use Rattle.db_fixpoint.proofs.looking.look_at_watchers.Goals as goal

pub loop-place-init : goal.loop-place-init
loop-place-init c = record {
  heeded = heeded_none c.args.model.now c.args.unfolded c.args.variable c.args.store.now;
  sound = c.is_sound.ensures;
}

pub watcher_at-number-requires : goal.watcher_at-number-requires
watcher_at-number-requires c =
    watcher_at c.args.variable c.loop-place.place c.args.store.now c.loop-place.store c.loop-place.invariant.heeded.adds
    (omega (arith, c.loop-place-test.true, ap length c.watchers_of-count.ensures))

pub look_at_block-requires-clause-way : goal.look_at_block-requires-clause-way
look_at_block-requires-clause-way c =
    keep_way c.args.model.now c.args.store.now c.loop-place.store c.args.unfolded c.loop-place.invariant.heeded.underway c.requires.way

pub returns-in_err-look_at_block-clause-underway : goal.returns-in_err-look_at_block-clause-underway
returns-in_err-look_at_block-clause-underway c =
    let p = err_from_is_err_and c.from_residual.result c.from_residual.ensures.1 in
    rw (p.1, p.2)
    (heeded_fails c.args.model.now c.args.store.now c.loop-place.store c.look_at_block.new.store (Err c.in_err-look_at_block.field-0.0) c.loop-place.invariant.heeded.underway
    c.in_err-look_at_block.ensures.underway)

pub loop-place-preserved : goal.loop-place-preserved
loop-place-preserved c =
    let step = c.in_ok-look_at_block.ensures in
    record {
      heeded = heeded_more c.args.model.now c.requires.lawful c.args.unfolded c.args.variable c.args.store.now c.loop-place.store c.look_at_block.new.store
          c.loop-place.invariant.sound c.is_sound-in-loop-place.ensures c.loop-place.place c.watcher_at-number.result c.watcher_at-number.ensures c.loop-place.invariant.heeded
          step.underway step.followed step.tokens step.adds step.marks;
      sound = c.is_sound-in-loop-place.ensures;
    }

pub returns-clause-underway : goal.returns-clause-underway
returns-clause-underway c = λ followed decisions unfolded due under none. c.loop-place.invariant.heeded.underway followed decisions unfolded due under

pub returns-clause-followed : goal.returns-clause-followed
returns-clause-followed c = λ decisions due heeded place number under below at within.
    c.loop-place.invariant.heeded.followed decisions due heeded place number under
    (omega (arith, below, c.loop-place-test.false, ap length c.watchers_of-count.ensures)) at within

pub returns-in_err-look_at_block-clause-marks : goal.returns-in_err-look_at_block-clause-marks
returns-in_err-look_at_block-clause-marks c =
    marks_both c.args.store.now c.loop-place.store c.look_at_block.new.store c.loop-place.invariant.heeded.marks c.in_err-look_at_block.ensures.marks
