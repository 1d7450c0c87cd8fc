use Rattle.std.proofs.Common.{◌≡◌, length}
use Rattle.nddl_hierarchy.specs.Facts.{facts_of}
use Rattle.nddl_construction.specs.Kept.{AreFieldTypes}
use Rattle.nddl_construction.proofs.kept.keep_all.Given as goal

-- each declaration so far has its place, and what is kept of it is right
abbrev pub invariant-loop-number : goal.invariant-loop-number
invariant-loop-number l = record {
  each : length l.types.places.items ≡ l.number;
  right : AreFieldTypes (facts_of l.basis) l.types;
}
