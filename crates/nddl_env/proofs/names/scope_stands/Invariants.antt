use Rattle.std.proofs.Common.{◌≡◌, ◌++◌, drop}
use Rattle.nddl_env.specs.Lexicons.{scope_stands}
use Rattle.nddl_env.specs.Shapes.{world_of}
use Rattle.nddl_env.proofs.names.scope_stands.Given as goal

-- those so far and those of the names that are left are all
abbrev pub invariant-loop-entry : goal.invariant-loop-entry
invariant-loop-entry l =
    l.stands ++ scope_stands (world_of l.premises) l.entry l.globals l.roots (drop l.entry l.names)
    ≡ scope_stands (world_of l.premises) 0 0 0 l.premises.sources.basis.types.scope.now
