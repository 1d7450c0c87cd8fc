use Rattle.std.proofs.Common.{◌≡◌, ◌++◌, drop, map}
use Rattle.nddl_hierarchy.specs.Shorter.{builds_declared}
use Rattle.nddl_hierarchy.proofs.shorter.building.Given as goal

-- those so far and those of the names that are left are all
abbrev pub invariant-loop-declared : goal.invariant-loop-declared
invariant-loop-declared l =
    l.builders.items ++ map (builds_declared l.scope (map (λ decl. decl.now) l.decls)) (drop l.declared-index l.names)
    ≡ map (builds_declared l.scope (map (λ decl. decl.now) l.decls)) l.scope
