use Rattle.nddl_symbols.specs.Finding.{earliest_fault}
use Rattle.nddl_hierarchy.specs.Facts.{facts_of}
use Rattle.nddl_resolve.specs.Paths.{around_of}
use Rattle.nddl_declarations.proofs.Steps.{flat_step}
use Rattle.nddl_constructors.specs.Bodies.{set_faults_in, sets_faults}
use Rattle.nddl_constructors.proofs.bodies.note_sets.Goals as goal

pub loop-set-preserved : goal.loop-set-preserved
loop-set-preserved c =
    let facts = facts_of c.args.basis.now in
    let around = around_of c.args.around.now in
    flat_step (set_faults_in facts around c.args.decl c.args.entry) c.args.sets.now c.loop-set.set-index c.set-item.result
    c.loop-set.first c.note_set.new.first
    (earliest_fault c.args.first.now (sets_faults facts around c.args.decl c.args.entry c.args.sets.now))
    c.loop-set-test.true c.set-item.is c.in_ok-note_set.ensures c.loop-set.invariant
