use Rattle.db_fixpoint.proofs.Seated.{IsMore, SeatsFirst}
use Rattle.db_fixpoint.proofs.seating.seat_these.Given as goal

abbrev pub invariant-loop-number : goal.invariant-loop-number
invariant-loop-number l = record {
  grown : IsMore l.fn.seats l.seats;
  seated : SeatsFirst l.store.keys l.store.net.domains l.numbers l.number-index l.seats;
}
