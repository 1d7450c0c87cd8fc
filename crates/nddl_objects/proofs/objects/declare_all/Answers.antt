use Rattle.std.proofs.Common.{map, refl}
use Rattle.nddl_hierarchy.specs.Facts.{facts_of}
use Rattle.nddl_objects.specs.Objects.{all_declared, one_declared, progress_of}
use Rattle.nddl_objects.proofs.Going.{going_step}
use Rattle.nddl_objects.proofs.objects.declare_all.Goals as goal

pub loop-number-preserved : goal.loop-number-preserved
loop-number-preserved c =
    let facts = facts_of c.args.findings.now.basis in
    going_step (λ number decl. one_declared facts number decl.now)
    (λ number decls. all_declared facts number (map (λ decl. decl.now) decls)) (λ number decl decls progress. refl)
    c.args.decls.now c.loop-number.number c.index-decls-number.result (progress_of c.loop-number.program)
    (progress_of c.declare.new.program)
    (all_declared facts 0 (map (λ decl. decl.now) c.args.decls.now) (progress_of c.args.program.now))
    c.loop-number-test.true c.index-decls-number.is c.in_ok-declare.ensures c.loop-number.invariant
