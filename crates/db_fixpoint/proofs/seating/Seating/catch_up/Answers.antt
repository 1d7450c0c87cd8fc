use Rattle.std.proofs.Common.{refl, sym, subst}
use Rattle.db_store.specs.Stores.{Stored, snapshot_of}
use Rattle.db_fixpoint.specs.Seating.{SeatsAll}
use Rattle.db_fixpoint.proofs.Sharing.{only_marked}
use Rattle.db_fixpoint.proofs.Seated.{can_go, seats_all, up_to_more}
use Rattle.db_fixpoint.proofs.seating.Seating.catch_up.Goals as goal

pub seat_since-requires : goal.seat_since-requires
seat_since-requires c = can_go c.args.store.now c.args.self.now.mark c.args.self.now.seats c.requires

pub returns-in_err-seat_since-clause-kept : goal.returns-in_err-seat_since-clause-kept
returns-in_err-seat_since-clause-kept c = record {
  grown = c.in_err-seat_since.ensures.grown;
  steps = refl;
  is = up_to_more c.args.store.now c.args.self.now.mark c.args.self.now.seats c.seat_since.new.seats c.in_err-seat_since.ensures.grown c.requires;
}

pub returns-clause-kept : goal.returns-clause-kept
returns-clause-kept c = record {
  grown = c.in_ok-seat_since.ensures.grown;
  steps = refl;
  is = (
    snapshot_of c.args.store.now,
    c.mark.ensures.is,
    seats_all c.args.store.now c.args.self.now.mark c.args.self.now.seats c.seat_since.new.seats c.in_ok-seat_since.ensures.grown c.requires c.in_ok-seat_since.ensures.ok,
  );
}

pub returns-clause-all : goal.returns-clause-all
returns-clause-all c =
    subst (λ (stored : Stored). SeatsAll stored.keys stored.net.domains c.seat_since.new.seats) (sym c.mark.ensures.marked)
    (seats_all c.args.store.now c.args.self.now.mark c.args.self.now.seats c.seat_since.new.seats c.in_ok-seat_since.ensures.grown c.requires c.in_ok-seat_since.ensures.ok)

pub returns-clause-only : goal.returns-clause-only
returns-clause-only c = only_marked c.args.store.now c.mark.new.self c.mark.ensures.marked
