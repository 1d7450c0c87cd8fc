use Rattle.std.proofs.Common.{◌≡◌, ◌++◌, drop, map}
use Rattle.nddl_hierarchy.specs.Shorter.{adds_declared}
use Rattle.nddl_hierarchy.proofs.shorter.adding.Given as goal

-- those so far and those of the names that are left are all
abbrev pub invariant-loop-declared : goal.invariant-loop-declared
invariant-loop-declared l =
    l.adds.items ++ map (adds_declared l.scope (map (λ decl. decl.now) l.decls)) (drop l.declared-index l.names)
    ≡ map (adds_declared l.scope (map (λ decl. decl.now) l.decls)) l.scope
