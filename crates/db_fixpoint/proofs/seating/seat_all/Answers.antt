use Rattle.std.proofs.Common.{arith}
use Rattle.db_fixpoint.proofs.Seated.{more_none, more_both, below_more, below_all, none_past}
use Rattle.db_fixpoint.proofs.seating.seat_all.Goals as goal

pub loop-number-init : goal.loop-number-init
loop-number-init c = record { grown = more_none c.args.seats.now; seated = λ number below. absurd (omega (arith, below)) }

pub returns-in_default-clause-ok : goal.returns-in_default-clause-ok
returns-in_default-clause-ok c =
    below_all c.args.store.now.keys c.args.store.now.net.domains c.loop-number.number c.loop-number.seats
    (none_past c.args.store.now.keys c.loop-number.number c.in_default.ensures) c.loop-number.invariant.seated

pub returns-in_err-seat-clause-grown : goal.returns-in_err-seat-clause-grown
returns-in_err-seat-clause-grown c =
    more_both c.args.seats.now c.loop-number.seats c.seat.new.seats c.loop-number.invariant.grown c.in_err-seat.ensures.grown

pub loop-number-preserved : goal.loop-number-preserved
loop-number-preserved c =
    let step = c.in_ok-seat.ensures in
    record {
      grown = more_both c.args.seats.now c.loop-number.seats c.seat.new.seats c.loop-number.invariant.grown step.grown;
      seated = below_more c.args.store.now.keys c.args.store.now.net.domains c.loop-number.number c.loop-number.seats c.seat.new.seats step.grown
          c.loop-number.invariant.seated step.ok;
    }
