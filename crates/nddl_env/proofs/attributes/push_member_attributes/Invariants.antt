use Rattle.std.proofs.Common.{◌≡◌, ◌++◌, drop}
use Rattle.std.specs.List.{filter_map}
use Rattle.nddl_env.specs.Shapes.{member_attribute, world_of}
use Rattle.nddl_env.proofs.attributes.push_member_attributes.Given as goal

-- the fields so far and those of the members that are left are all
abbrev pub invariant-loop-member : goal.invariant-loop-member
invariant-loop-member l =
    l.fields ++ filter_map (member_attribute (world_of l.premises)) (drop l.member-index l.members)
    ≡ l.initial.fields ++ filter_map (member_attribute (world_of l.premises)) l.members
