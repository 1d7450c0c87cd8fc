use Rattle.std.proofs.Common.{◌≡◌, ◌++◌, drop}
use Rattle.nddl_constructors.proofs.wanted.copied.Given as goal

-- those so far and those that are left are all
abbrev pub invariant-loop-kind : goal.invariant-loop-kind
invariant-loop-kind l = l.copy.items ++ drop l.kind-index l.kinds ≡ l.kinds
