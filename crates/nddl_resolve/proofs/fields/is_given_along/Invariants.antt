use Rattle.std.proofs.Common.{◌≡◌, drop, map}
use Rattle.nddl_resolve.specs.Fields.{is_given_along}
use Rattle.nddl_resolve.proofs.fields.is_given_along.Given as goal

-- it is so along those that are left where it is so along all
abbrev pub invariant-loop-entry : goal.invariant-loop-entry
invariant-loop-entry l =
    is_given_along l.scope (map (λ decl. decl.now) l.decls) l.name (drop l.entry-index l.line)
    ≡ is_given_along l.scope (map (λ decl. decl.now) l.decls) l.name l.line
