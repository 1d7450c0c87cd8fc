use Rattle.std.proofs.Common.{map, refl}
use Rattle.nddl_symbols.specs.Finding.{earliest_fault}
use Rattle.nddl_hierarchy.specs.Facts.{facts_of}
use Rattle.nddl_constructors.proofs.Noting.{numbered_step}
use Rattle.nddl_problem_check.specs.Texts.{problem_decl_faults, problem_faults_from}
use Rattle.nddl_problem_check.proofs.texts.note_texts.Goals as goal

pub loop-number-preserved : goal.loop-number-preserved
loop-number-preserved c =
    let facts = facts_of c.args.basis.now in
    numbered_step (λ number decl. problem_decl_faults facts number decl.now)
    (λ number decls. problem_faults_from facts number (map (λ decl. decl.now) decls))
    (λ number decl decls. refl) c.args.decls.now c.loop-number.number c.index-decls-number.result c.loop-number.first
    c.note_decl.new.first
    (earliest_fault c.args.first.now (problem_faults_from facts 0 (map (λ decl. decl.now) c.args.decls.now)))
    c.loop-number-test.true c.index-decls-number.is c.in_ok-note_decl.ensures c.loop-number.invariant
