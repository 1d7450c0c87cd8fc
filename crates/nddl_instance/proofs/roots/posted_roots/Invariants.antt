use Rattle.std.proofs.Common.{◌≡◌, ◌++◌, drop, map}
use Rattle.nddl_instance.specs.Outside.{outsides_of}
use Rattle.nddl_instance.specs.Roots.{posted_roots}
use Rattle.nddl_instance.proofs.roots.posted_roots.Given as goal

-- the roots so far and those of the declarations that are left are all
abbrev pub invariant-loop-decl : goal.invariant-loop-decl
invariant-loop-decl l =
    l.roots ++ posted_roots (outsides_of l.outside) (map (λ decl. decl.now) (drop l.decl-index l.decls))
    ≡ posted_roots (outsides_of l.outside) (map (λ decl. decl.now) l.decls)
