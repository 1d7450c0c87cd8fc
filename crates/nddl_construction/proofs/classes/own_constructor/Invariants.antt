use Rattle.std.proofs.Common.{◌≡◌, drop}
use Rattle.nddl_construction.specs.Classes.{own_constructor}
use Rattle.nddl_construction.proofs.classes.own_constructor.Given as goal

-- what is found among those that are left is found among all
abbrev pub invariant-loop-member : goal.invariant-loop-member
invariant-loop-member l = own_constructor (drop l.member-index l.members) ≡ own_constructor l.members
