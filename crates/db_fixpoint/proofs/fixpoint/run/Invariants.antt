use Rattle.std.proofs.Common.{◌≡◌, List}
use Rattle.model_core.specs.declared.decision.Decision.{Decision}
use Rattle.db_store.specs.StoreMarks.{KeepStoreMarks}
use Rattle.db_fixpoint.specs.Looking.{IsOnWay}
use Rattle.db_fixpoint.specs.Seating.{KeepsSeating}
use Rattle.db_fixpoint.proofs.fixpoint.run.Given as goal

abbrev pub invariant-loop-round : goal.invariant-loop-round
invariant-loop-round l = record {
  on : (decisions : List Decision) → IsOnWay l.model decisions l.fn.store l.unfolded l.fn.store.net.changed
      → IsOnWay l.model decisions l.store l.count l.store.net.changed;
  tables : l.store.net.tables ≡ l.fn.store.net.tables;
  marks : KeepStoreMarks l.fn.store l.store;
  seated : KeepsSeating l.fn.seating l.store l.seating;
}
