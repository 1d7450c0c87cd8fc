use Rattle.db_fixpoint.proofs.Seated.{IsMore, SeatsBelow}
use Rattle.db_fixpoint.proofs.seating.seat_all.Given as goal

abbrev pub invariant-loop-number : goal.invariant-loop-number
invariant-loop-number l = record {
  grown : IsMore l.fn.seats l.seats;
  seated : SeatsBelow l.store.keys l.store.net.domains l.number l.seats;
}
