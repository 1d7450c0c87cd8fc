use Rattle.std.proofs.Common.{◌≡◌, ◌++◌, drop}
use Rattle.std.specs.List.{flat_map}
use Rattle.nddl_env.specs.Shapes.{attributes_at, world_of}
use Rattle.nddl_env.proofs.attributes.attributes_along.Given as goal

-- the fields so far and those of the classes that are left are all
abbrev pub invariant-loop-entry : goal.invariant-loop-entry
invariant-loop-entry l =
    l.fields ++ flat_map (attributes_at (world_of l.premises)) (drop l.entry-index l.line)
    ≡ flat_map (attributes_at (world_of l.premises)) l.line
