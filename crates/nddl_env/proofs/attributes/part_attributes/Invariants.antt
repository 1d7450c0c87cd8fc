use Rattle.std.proofs.Common.{◌≡◌, ◌++◌, drop}
use Rattle.std.specs.List.{filter_map}
use Rattle.nddl_env.specs.Shapes.{part_attribute, world_of}
use Rattle.nddl_env.proofs.attributes.part_attributes.Given as goal

-- the parameters so far and those of the parts that are left are all
abbrev pub invariant-loop-part : goal.invariant-loop-part
invariant-loop-part l =
    l.params ++ filter_map (part_attribute (world_of l.premises)) (drop l.part-index l.parts)
    ≡ filter_map (part_attribute (world_of l.premises)) l.parts
