use Rattle.std.proofs.Common.{◌≡◌, drop}
use Rattle.nddl_hierarchy.specs.Shorter.{has_named}
use Rattle.nddl_hierarchy.proofs.shorter.has_named.Given as goal

-- one of those that are left is one of all
abbrev pub invariant-loop-member : goal.invariant-loop-member
invariant-loop-member l = has_named (drop l.member-index l.members) ≡ has_named l.members
