use Rattle.std.proofs.Common.{◌≡◌, drop, map}
use Rattle.nddl_resolve.specs.Fields.{field_along}
use Rattle.nddl_resolve.proofs.fields.field_along.Given as goal

-- what is found along those that are left is found along all
abbrev pub invariant-loop-entry : goal.invariant-loop-entry
invariant-loop-entry l =
    field_along l.basis.types.scope.now (map (λ decl. decl.now) l.basis.decls.now) l.name (drop l.entry-index l.line)
    ≡ field_along l.basis.types.scope.now (map (λ decl. decl.now) l.basis.decls.now) l.name l.line
