use Rattle.std.proofs.Common.{◌≡◌, ◌++◌, drop}
use Rattle.nddl_construction.specs.Classes.{entries_alone}
use Rattle.nddl_construction.proofs.classes.entries_alone.Given as goal

-- those so far and those that are left are all
abbrev pub invariant-loop-entry : goal.invariant-loop-entry
invariant-loop-entry l = l.line.items ++ entries_alone (drop l.entry-index l.entries) ≡ entries_alone l.entries
