use Rattle.nddl_symbols.specs.Finding.{earliest_fault}
use Rattle.nddl_declarations.proofs.Steps.{flat_step}
use Rattle.nddl_construction.specs.Reading.{all_unmade_faults, unmade_faults}
use Rattle.nddl_construction.specs.Scene.{grounds_of, scenery_of}
use Rattle.nddl_construction.proofs.reading.note_all_unmade.Goals as goal

pub loop-expr-preserved : goal.loop-expr-preserved
loop-expr-preserved c =
    let grounds = grounds_of c.args.footing.now in
    let scene = scenery_of c.args.scene.now in
    flat_step (unmade_faults grounds scene) c.args.exprs.now c.loop-expr.expr-index c.expr-item.result c.loop-expr.first
    c.note_unmade.new.first (earliest_fault c.args.first.now (all_unmade_faults grounds scene c.args.exprs.now))
    c.loop-expr-test.true c.expr-item.is c.note_unmade.ensures c.loop-expr.invariant
