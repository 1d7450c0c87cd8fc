use Rattle.std.proofs.Common.{◌≡◌, ◌++◌, drop}
use Rattle.std.specs.List.{flat_map}
use Rattle.nddl_env.specs.Lexicons.{entry_pred_shapes}
use Rattle.nddl_env.specs.Shapes.{world_of}
use Rattle.nddl_env.proofs.predicates.push_declared_shapes.Given as goal

-- the predicates so far and those of the classes that are left are all
abbrev pub invariant-loop-entry : goal.invariant-loop-entry
invariant-loop-entry l =
    l.shapes ++ flat_map (entry_pred_shapes (world_of l.premises)) (drop l.entry-index l.entries)
    ≡ l.initial.shapes ++ flat_map (entry_pred_shapes (world_of l.premises)) l.entries
