use Rattle.std.proofs.Common.{refl, ap, ◌∙◌}
use Rattle.nddl_constructors.specs.Wants.{wanted_at}
use Rattle.nddl_construction.specs.Reading.{fine_data, fine_datum}
use Rattle.nddl_construction.specs.Scene.{grounds_of, scenery_of}
use Rattle.nddl_construction.proofs.Filling.{numbered_fill}
use Rattle.nddl_construction.proofs.reading.fine_data.Goals as goal

pub loop-number-preserved : goal.loop-number-preserved
loop-number-preserved c =
    let grounds = grounds_of c.args.footing.now in
    let scene = scenery_of c.args.scene.now in
    let objects = c.args.objects.now in
    let wants = c.args.wants.now in
    numbered_fill (λ number expr. fine_datum grounds scene objects (wanted_at wants number) expr)
    (λ number exprs. fine_data grounds scene objects wants number exprs) (λ number expr exprs. refl)
    c.args.exprs.now c.loop-number.number c.index-exprs-number.result c.loop-number.found.items c.push.new.self.items
    (fine_data grounds scene objects wants 0 c.args.exprs.now) c.in_ok-datum.datum
    c.loop-number-test.true c.index-exprs-number.is
    (c.in_ok-datum.ensures
    ∙ ap (λ wanted. fine_datum grounds scene objects wanted c.index-exprs-number.result) c.wanted_at-wanted.ensures)
    c.in_ok-push.ensures.items c.loop-number.invariant
