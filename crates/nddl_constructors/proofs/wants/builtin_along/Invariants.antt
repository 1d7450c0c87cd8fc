use Rattle.std.proofs.Common.{◌≡◌, drop, map}
use Rattle.nddl_constructors.specs.Wants.{builtin_along}
use Rattle.nddl_constructors.proofs.wants.builtin_along.Given as goal

-- what is found along those that are left is found along all
abbrev pub invariant-loop-entry : goal.invariant-loop-entry
invariant-loop-entry l =
    builtin_along l.scope (map (λ decl. decl.now) l.decls) (drop l.entry-index l.line)
    ≡ builtin_along l.scope (map (λ decl. decl.now) l.decls) l.line
