use Rattle.std.proofs.Common.{map}
use Rattle.nddl_symbols.specs.Finding.{earliest_fault}
use Rattle.nddl_hierarchy.specs.Facts.{facts_of}
use Rattle.nddl_declarations.specs.Faults.{decls_faults}
use Rattle.nddl_declarations.proofs.Telling.{decls_step}
use Rattle.nddl_declarations.proofs.decls.note_decls.Goals as goal

pub loop-number-preserved : goal.loop-number-preserved
loop-number-preserved c =
    decls_step (facts_of c.args.basis.now) c.args.decls.now c.loop-number.number c.index-decls-number.result c.loop-number.first
    c.note_decl.new.first
    (earliest_fault c.args.first.now (decls_faults (facts_of c.args.basis.now) 0 (map (λ decl. decl.now) c.args.decls.now)))
    c.loop-number-test.true c.index-decls-number.is c.in_ok-note_decl.ensures c.loop-number.invariant
