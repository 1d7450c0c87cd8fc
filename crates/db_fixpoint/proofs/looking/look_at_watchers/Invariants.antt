use Rattle.db_store.specs.Stores.{snapshot_of, IsSnapshot}
use Rattle.db_fixpoint.proofs.Heeding.{WatchersHeeded}
use Rattle.db_fixpoint.proofs.looking.look_at_watchers.Given as goal

abbrev pub invariant-loop-place : goal.invariant-loop-place
invariant-loop-place l = record {
  heeded : WatchersHeeded l.model l.unfolded l.variable l.place l.fn.store l.store;
  sound : IsSnapshot (snapshot_of l.store);
}
