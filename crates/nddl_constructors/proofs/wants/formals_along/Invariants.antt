use Rattle.std.proofs.Common.{◌≡◌, ◌-◌, length, map}
use Rattle.eu_forest.specs.Ancestors.{ancestry, line_from}
use Rattle.nddl_constructors.specs.Wants.{line_formals}
use Rattle.nddl_constructors.proofs.wants.formals_along.Given as goal

-- what is found along what the line goes on with is found along all of it
abbrev pub invariant-loop : goal.invariant-loop
invariant-loop l =
    line_formals l.scope (map (λ decl. decl.now) l.decls) (line_from (length l.parents - l.counter) l.parents l.next)
    ≡ line_formals l.scope (map (λ decl. decl.now) l.decls) (ancestry l.parents l.entry)
