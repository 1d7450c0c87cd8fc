use Rattle.std.proofs.Common.{◌≡◌, ◌++◌, drop, map}
use Rattle.nddl_hierarchy.specs.Lines.{sort_under}
use Rattle.nddl_hierarchy.proofs.parents.parents_of.Given as goal

-- those so far and those of the names that are left are all
abbrev pub invariant-loop-declared : goal.invariant-loop-declared
invariant-loop-declared l =
    l.parents.items ++ map (λ declared. sort_under l.scope (map (λ decl. decl.now) l.decls) declared declared.sort) (drop l.declared-index l.names)
    ≡ map (λ declared. sort_under l.scope (map (λ decl. decl.now) l.decls) declared declared.sort) l.names
