use Rattle.std.proofs.Common.{map, refl}
use Rattle.nddl_symbols.specs.Finding.{earliest_fault}
use Rattle.nddl_constructors.proofs.Noting.{numbered_step}
use Rattle.nddl_problem_check.specs.Fitness.{outset_at}
use Rattle.nddl_problem_check.specs.Sound.{making_faults, making_faults_from}
use Rattle.nddl_problem_check.proofs.sound.note_all_making.Goals as goal

pub loop-number-preserved : goal.loop-number-preserved
loop-number-preserved c =
    let outset = outset_at c.args.start.now in
    let closed = c.args.closed in
    numbered_step (λ number decl. making_faults outset closed number decl.now)
    (λ number decls. making_faults_from outset closed number (map (λ decl. decl.now) decls))
    (λ number decl decls. refl) c.args.decls.now c.loop-number.number c.index-decls-number.result c.loop-number.first
    c.note_making.new.first
    (earliest_fault c.args.first.now (making_faults_from outset closed 0 (map (λ decl. decl.now) c.args.decls.now)))
    c.loop-number-test.true c.index-decls-number.is c.in_ok-note_making.ensures c.loop-number.invariant
