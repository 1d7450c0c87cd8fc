use Rattle.std.proofs.Common.{◌≡◌, ◌++◌, map, drop}
use Rattle.nddl_symbols.specs.Names.{names_from, scope_names}
use Rattle.nddl_symbols.proofs.declared.declared_names.Given as goal

-- the names so far and those of the declarations that are left are all
abbrev pub invariant-loop-number : goal.invariant-loop-number
invariant-loop-number l =
    l.names ++ names_from l.number l.enums (map (λ decl. decl.now) (drop l.number l.decls)) ≡ scope_names (map (λ decl. decl.now) l.decls)
