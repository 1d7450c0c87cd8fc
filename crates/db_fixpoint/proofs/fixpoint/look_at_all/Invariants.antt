use Rattle.std.proofs.Common.{◌≡◌}
use Rattle.db_store.specs.StoreMarks.{KeepStoreMarks}
use Rattle.db_fixpoint.specs.Seating.{KeepsSeating}
use Rattle.db_fixpoint.proofs.Resting.{AreLookedAt}
use Rattle.db_fixpoint.proofs.fixpoint.look_at_all.Given as goal

abbrev pub invariant-loop-variable : goal.invariant-loop-variable
invariant-loop-variable l = record {
  looked : AreLookedAt l.model l.unfolded l.due l.variable-index l.fn.store l.store;
  tables : l.store.net.tables ≡ l.fn.store.net.tables;
  changed : l.store.net.changed ≡ l.fn.store.net.changed;
  marks : KeepStoreMarks l.fn.store l.store;
  seated : KeepsSeating l.fn.seating l.store l.seating;
}
