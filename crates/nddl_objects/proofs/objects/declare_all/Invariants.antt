use Rattle.std.proofs.Common.{◌≡◌, drop, map}
use Rattle.nddl_hierarchy.specs.Facts.{facts_of}
use Rattle.nddl_objects.specs.Objects.{all_declared, progress_of}
use Rattle.nddl_objects.proofs.objects.declare_all.Given as goal

-- what comes of the declarations that are left from here comes of all from the start
abbrev pub invariant-loop-number : goal.invariant-loop-number
invariant-loop-number l =
    all_declared (facts_of l.findings.basis) l.number (map (λ decl. decl.now) (drop l.number l.decls)) (progress_of l.program)
    ≡ all_declared (facts_of l.findings.basis) 0 (map (λ decl. decl.now) l.decls) (progress_of l.initial.program)
