use Rattle.std.proofs.Common.{◌≡◌, length}
use Rattle.db_posting.specs.Tables.{OnlyTables}
use Rattle.db_posting.proofs.Filling.{AreTablesTo}
use Rattle.db_posting.proofs.tables.add_tables.Given as goal

abbrev pub invariant-loop-number : goal.invariant-loop-number
invariant-loop-number l = record {
  count : length l.store.net.tables ≡ l.number;
  each : AreTablesTo l.model l.store.net.tables l.number;
  only : OnlyTables l.fn.store l.store;
}
