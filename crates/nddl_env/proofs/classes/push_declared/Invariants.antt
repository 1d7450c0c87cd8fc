use Rattle.std.proofs.Common.{◌≡◌, ◌++◌, drop, map}
use Rattle.nddl_env.specs.Lexicons.{entry_shape}
use Rattle.nddl_env.specs.Shapes.{world_of}
use Rattle.nddl_env.proofs.classes.push_declared.Given as goal

-- the classes so far and those that are left are all
abbrev pub invariant-loop-entry : goal.invariant-loop-entry
invariant-loop-entry l =
    l.classes ++ map (entry_shape (world_of l.premises)) (drop l.entry-index l.entries)
    ≡ l.initial.classes ++ map (entry_shape (world_of l.premises)) l.entries
