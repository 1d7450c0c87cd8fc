use Rattle.std.proofs.Common.{◌≡◌, ◌++◌, drop}
use Rattle.nddl_terms.proofs.populations.lists_copied.Given as goal

-- those so far and those that are left are all
abbrev pub invariant-loop-list : goal.invariant-loop-list
invariant-loop-list l = l.copied.items ++ drop l.list-index l.lists ≡ l.lists
