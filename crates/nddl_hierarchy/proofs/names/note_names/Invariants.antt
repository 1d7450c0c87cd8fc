use Rattle.std.proofs.Common.{◌≡◌, drop}
use Rattle.nddl_hierarchy.specs.Inherited.{member_names, names_noted}
use Rattle.nddl_hierarchy.proofs.names.note_names.Given as goal

-- those so far and those of the members that are left are all
abbrev pub invariant-loop-member : goal.invariant-loop-member
invariant-loop-member l =
    names_noted l.noted (member_names (drop l.member-index l.members)) ≡ names_noted l.initial.noted (member_names l.members)
