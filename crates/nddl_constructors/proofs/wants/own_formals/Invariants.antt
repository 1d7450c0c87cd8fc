use Rattle.std.proofs.Common.{◌≡◌, drop}
use Rattle.nddl_constructors.specs.Wants.{own_formals}
use Rattle.nddl_constructors.proofs.wants.own_formals.Given as goal

-- what is found among those that are left is found among all
abbrev pub invariant-loop-member : goal.invariant-loop-member
invariant-loop-member l = own_formals (drop l.member-index l.members) ≡ own_formals l.members
