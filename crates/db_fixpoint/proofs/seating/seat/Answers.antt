use Rattle.db_fixpoint.proofs.Claimed.{ok_then}
use Rattle.db_fixpoint.proofs.Seated.{more_none, pushed_seat, seat_taken}
use Rattle.db_fixpoint.proofs.seating.seat.Goals as goal

pub returns-in_default-clause-grown : goal.returns-in_default-clause-grown
returns-in_default-clause-grown c = more_none c.args.seats.now

pub returns-in_default-clause-ok : goal.returns-in_default-clause-ok
returns-in_default-clause-ok c = λ place object domain at given single. absurd (c.in_default.ensures place at)

pub returns-in_default-object_at-clause-grown : goal.returns-in_default-object_at-clause-grown
returns-in_default-object_at-clause-grown c = more_none c.args.seats.now

pub returns-in_default-object_at-clause-ok : goal.returns-in_default-object_at-clause-ok
returns-in_default-object_at-clause-ok c = λ place object domain at given single. absurd (c.in_default-object_at.ensures domain object given single)

pub returns-clause-grown : goal.returns-clause-grown
returns-clause-grown c = pushed_seat c.add.result c.args.seats.now c.add.new.self _ c.add.ensures.ok c.add.ensures.err

pub returns-clause-ok : goal.returns-clause-ok
returns-clause-ok c =
    ok_then c.add.result
    (seat_taken c.args.store.now.keys c.args.store.now.net.domains c.args.number c.in-Some.place c.in-Some.ensures c.in-Some-object_at.object c.in-Some-object_at.ensures
    c.args.seats.now c.add.new.self) c.add.ensures.ok
