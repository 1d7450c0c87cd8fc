use Rattle.eu_forest.specs.Members.{is_marked}
use Rattle.nddl_hierarchy.proofs.Passing.{ArePassed}
use Rattle.nddl_hierarchy.proofs.shorter.shortened.Given as goal

-- those that have been dealt with have what stands next on their lines
abbrev pub invariant-loop-entry : goal.invariant-loop-entry
invariant-loop-entry l = ArePassed (is_marked l.marks) l.parents l.order l.entry-index l.short.items
