use Rattle.std.proofs.Common.{◌∙◌, ap, sym, arith}
use Rattle.nddl_construction.specs.Passing.{passed_down}
use Rattle.nddl_construction.specs.Scene.{scenery_of}
use Rattle.nddl_construction.proofs.Finding.{scene_there}
use Rattle.nddl_objects.specs.Blueprints.{grounds_in}
use Rattle.nddl_objects.specs.Construction.{asked_of, construction_of, subject_of}
use Rattle.nddl_objects.specs.Made.{made_by}
use Rattle.nddl_objects.proofs.Deeper.{body_one, made_one, run_one}
use Rattle.nddl_objects.proofs.running.+making.Goals as goal

pub make-returns-in_ok-begin : goal.make-returns-in_ok-begin
make-returns-in_ok-begin t c =
    made_one c.args.levels c.count.result (grounds_in c.args.blueprint.now) (asked_of c.args.request.now)
    (construction_of c.args.making.now) (construction_of c.begin.new.self) (construction_of c.run_object.new.making)
    c.run_object.result (omega (arith, c.if-levels-eq0.false)) (sym c.has_room.ensures ∙ c.if-has_room.true) c.count.ensures
    c.in_ok-begin.ensures c.run_object.ensures

pub run_object-returns : goal.run_object-returns
run_object-returns t c =
    let grounds = grounds_in c.args.blueprint.now in
    let makes = made_by c.args.levels grounds in
    run_one makes c.args.levels grounds (subject_of c.args.subject.now) (asked_of c.args.request.now)
    (construction_of c.args.making.now) (construction_of c.run_classes.new.making) (construction_of c.finish.new.making)
    c.as_slice-2.result.now c.finish.result
    (c.as_slice-2.ensures.value
    ∙ (c.in_ok-passed.ensures
    ∙ ap (λ objects. passed_down grounds objects c.args.request.now.class c.args.request.now.values.now) c.as_slice.ensures.value))
    c.in_ok-run_classes.ensures c.finish.ensures

pub run_body-returns : goal.run_body-returns
run_body-returns t c =
    let grounds = grounds_in c.args.blueprint.now in
    let invocation = c.args.invocation.now in
    let builder = invocation.builder.now in
    let values = invocation.values.now in
    body_one (made_by c.args.levels grounds) c.args.levels grounds (subject_of c.args.subject.now) invocation.entry values
    builder.constructor.now (scenery_of c.scene-scene.result) c.constructor_sets-parts.result.now
    (construction_of c.args.making.now) (construction_of c.note_passed.new.making) (construction_of c.run_parts.new.making)
    c.run_parts.result (c.scene-scene.ensures ∙ scene_there grounds.facts invocation.entry builder values c.requires)
    c.constructor_sets-parts.ensures c.in_ok-note_passed.ensures c.run_parts.ensures
