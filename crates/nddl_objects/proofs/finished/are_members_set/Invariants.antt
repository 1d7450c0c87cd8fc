use Rattle.std.proofs.Common.{◌≡◌, drop}
use Rattle.std.specs.List.{list_all}
use Rattle.nddl_objects.specs.Finished.{is_member_set}
use Rattle.nddl_objects.proofs.finished.are_members_set.Given as goal

-- what is so of those that are left is so of all
abbrev pub invariant-loop-member : goal.invariant-loop-member
invariant-loop-member l =
    list_all (is_member_set l.fields) (drop l.member-index l.members) ≡ list_all (is_member_set l.fields) l.members
