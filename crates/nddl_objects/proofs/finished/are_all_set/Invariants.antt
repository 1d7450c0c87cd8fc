use Rattle.std.proofs.Common.{◌≡◌, drop}
use Rattle.nddl_hierarchy.specs.Facts.{facts_of}
use Rattle.nddl_objects.specs.Finished.{are_all_set}
use Rattle.nddl_objects.proofs.finished.are_all_set.Given as goal

-- what is so of those that are left is so of all
abbrev pub invariant-loop-class : goal.invariant-loop-class
invariant-loop-class l = are_all_set (facts_of l.basis) l.fields (drop l.class-index l.line) ≡ are_all_set (facts_of l.basis) l.fields l.line
