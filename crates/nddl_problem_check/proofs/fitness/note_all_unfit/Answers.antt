use Rattle.std.proofs.Common.{map, refl}
use Rattle.nddl_symbols.specs.Finding.{earliest_fault}
use Rattle.nddl_constructors.proofs.Noting.{numbered_step}
use Rattle.nddl_problem_check.specs.Fitness.{outset_at, unfit_decl_faults, unfit_faults_from}
use Rattle.nddl_problem_check.proofs.fitness.note_all_unfit.Goals as goal

pub loop-number-preserved : goal.loop-number-preserved
loop-number-preserved c =
    let outset = outset_at c.args.start.now in
    let are_fine = c.args.are_fine in
    numbered_step (λ number decl. unfit_decl_faults outset are_fine number decl.now)
    (λ number decls. unfit_faults_from outset are_fine number (map (λ decl. decl.now) decls))
    (λ number decl decls. refl) c.args.decls.now c.loop-number.number c.index-decls-number.result c.loop-number.first
    c.note_unfit.new.first
    (earliest_fault c.args.first.now (unfit_faults_from outset are_fine 0 (map (λ decl. decl.now) c.args.decls.now)))
    c.loop-number-test.true c.index-decls-number.is c.in_ok-note_unfit.ensures c.loop-number.invariant
