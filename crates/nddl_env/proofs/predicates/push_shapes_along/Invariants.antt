use Rattle.std.proofs.Common.{◌≡◌, ◌++◌, drop}
use Rattle.std.specs.List.{flat_map}
use Rattle.nddl_env.specs.Lexicons.{pred_shapes_at}
use Rattle.nddl_env.specs.Shapes.{world_of}
use Rattle.nddl_env.proofs.predicates.push_shapes_along.Given as goal

-- the predicates so far and those of the classes that are left are all
abbrev pub invariant-loop-entry : goal.invariant-loop-entry
invariant-loop-entry l =
    l.shapes ++ flat_map (pred_shapes_at (world_of l.premises) l.class) (drop l.entry-index l.line)
    ≡ l.initial.shapes ++ flat_map (pred_shapes_at (world_of l.premises) l.class) l.line
