use Rattle.std.proofs.Common.{◌≡◌, ◌++◌, drop}
use Rattle.std.specs.List.{filter_map}
use Rattle.nddl_env.specs.Lexicons.{member_shape}
use Rattle.nddl_env.specs.Shapes.{world_of}
use Rattle.nddl_env.proofs.predicates.push_member_shapes.Given as goal

-- the predicates so far and those of the members that are left are all
abbrev pub invariant-loop-member : goal.invariant-loop-member
invariant-loop-member l =
    l.shapes ++ filter_map (member_shape (world_of l.premises) l.class) (drop l.member-index l.members)
    ≡ l.initial.shapes ++ filter_map (member_shape (world_of l.premises) l.class) l.members
