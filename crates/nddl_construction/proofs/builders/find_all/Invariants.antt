use Rattle.std.proofs.Common.{◌≡◌, length}
use Rattle.nddl_hierarchy.specs.Facts.{facts_of}
use Rattle.nddl_construction.specs.Builders.{AreEntries}
use Rattle.nddl_construction.proofs.builders.find_all.Given as goal

-- something is found of each declaration so far, and it is right
abbrev pub invariant-loop-number : goal.invariant-loop-number
invariant-loop-number l = record {
  each : length l.entries.items ≡ l.number;
  right : AreEntries (facts_of l.basis) l.entries.items;
}
