use Rattle.std.proofs.Common.{◌≡◌, ◌++◌}
use Rattle.nddl_env.proofs.listing.append.Given as goal

-- those so far and those that are left are all
abbrev pub invariant-loop-list : goal.invariant-loop-list
invariant-loop-list l = l.lists.items ++ l.list-iterator.rest.items ≡ l.initial.lists.items ++ l.fn.more.items
