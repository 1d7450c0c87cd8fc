use Rattle.std.proofs.Common.{◌≡◌, drop}
use Rattle.nddl_construction.specs.Passing.{has_super}
use Rattle.nddl_construction.proofs.handing.has_super.Given as goal

-- one of those that are left is one of all
abbrev pub invariant-loop-set : goal.invariant-loop-set
invariant-loop-set l = has_super (drop l.set-index l.body) ≡ has_super l.body
