use Rattle.std.proofs.Common.{◌≡◌, ◌++◌, drop, map}
use Rattle.nddl_types.specs.Classes.{enums_of}
use Rattle.nddl_types.proofs.enums.enums_of.Given as goal

-- the enums so far and those of the declarations that are left are all
abbrev pub invariant-loop-decl : goal.invariant-loop-decl
invariant-loop-decl l =
    l.enums ++ enums_of (map (λ decl. decl.now) (drop l.decl-index l.decls)) ≡ enums_of (map (λ decl. decl.now) l.decls)
