use Rattle.std.proofs.Common.{◌≡◌, drop, map}
use Rattle.nddl_hierarchy.specs.Ancestors.{is_extended}
use Rattle.nddl_hierarchy.proofs.lines.is_extended.Given as goal

-- it is so of one of those that are left where it is so of any
abbrev pub invariant-loop-entry : goal.invariant-loop-entry
invariant-loop-entry l =
    is_extended l.scope (map (λ decl. decl.now) l.decls) l.class (drop l.entry-index l.line)
    ≡ is_extended l.scope (map (λ decl. decl.now) l.decls) l.class l.line
