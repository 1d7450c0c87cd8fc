use Rattle.std.proofs.Common.{arith}
use Rattle.db_fixpoint.proofs.Seated.{more_none, more_both, first_more, first_all}
use Rattle.db_fixpoint.proofs.seating.seat_these.Goals as goal

pub loop-number-init : goal.loop-number-init
loop-number-init c = record { grown = more_none c.args.seats.now; seated = λ k number below at. absurd (omega (arith, below)) }

pub returns-in_err-seat-clause-grown : goal.returns-in_err-seat-clause-grown
returns-in_err-seat-clause-grown c =
    more_both c.args.seats.now c.loop-number.seats c.seat.new.seats c.loop-number.invariant.grown c.in_err-seat.ensures.grown

pub loop-number-preserved : goal.loop-number-preserved
loop-number-preserved c =
    let step = c.in_ok-seat.ensures in
    record {
      grown = more_both c.args.seats.now c.loop-number.seats c.seat.new.seats c.loop-number.invariant.grown step.grown;
      seated = first_more c.args.store.now.keys c.args.store.now.net.domains c.args.numbers.now c.loop-number.number-index c.loop-number.seats c.seat.new.seats step.grown
          c.loop-number.invariant.seated step.ok;
    }

pub returns-clause-ok : goal.returns-clause-ok
returns-clause-ok c =
    first_all c.args.store.now.keys c.args.store.now.net.domains c.args.numbers.now c.loop-number.number-index c.loop-number.seats c.loop-number-test.false
    c.loop-number.invariant.seated
