use Rattle.std.proofs.Common.{◌≡◌}
use Rattle.db_opening.specs.Begun.{IsBegun}
use Rattle.db_opening.proofs.Beginning.{AreFirstRoots}
use Rattle.db_opening.proofs.problem.bring_roots.Given as goal

abbrev pub invariant-loop-number : goal.invariant-loop-number
invariant-loop-number l = record {
  begun : IsBegun l.model l.store;
  there : AreFirstRoots l.number l.store;
  tables : l.store.net.tables ≡ l.initial.store.net.tables;
}
