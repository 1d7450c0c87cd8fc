use Rattle.std.proofs.Common.{◌≡◌, [], drop, map}
use Rattle.nddl_hierarchy.specs.Inherited.{line_noted}
use Rattle.nddl_hierarchy.proofs.names.line_index.Given as goal

-- those so far and those of the classes that are left are all
abbrev pub invariant-loop-entry : goal.invariant-loop-entry
invariant-loop-entry l =
    line_noted l.scope (map (λ decl. decl.now) l.decls) l.noted (drop l.entry-index l.line)
    ≡ line_noted l.scope (map (λ decl. decl.now) l.decls) [] l.line
