use Rattle.std.proofs.Common.{◌∙◌}
use Rattle.std.specs.Option.{option_copied}
use Rattle.std.proofs.lemmas.Result.{IfOk-weaker}
use Rattle.nddl_hierarchy.specs.Facts.{facts_of}
use Rattle.nddl_construction.specs.Scene.{grounds_of, scenery_of}
use Rattle.nddl_construction.specs.Classes.{constructor_sets}
use Rattle.nddl_construction.specs.Passing.{constructor_scene, wants_above}
use Rattle.nddl_construction.proofs.Finding.{handed_over, scene_there}
use Rattle.nddl_construction.proofs.passing.super_data.Goals as goal

pub returns : goal.returns
returns c =
    let facts = facts_of c.args.footing.now.basis in
    let invocation = c.args.invocation.now in
    let builder = invocation.builder.now in
    let values = invocation.values.now in
    IfOk-weaker c.handed_data.result _ _ (λ found is.
    is
    ∙ handed_over (grounds_of c.args.footing.now) (scenery_of c.scene-scene.result)
    (constructor_scene facts invocation.entry builder.constructor.now values) c.args.objects.now (wants_above facts invocation.entry)
    builder.wants.items (constructor_sets builder.constructor.now) (option_copied builder.handed)
    (c.scene-scene.ensures ∙ scene_there facts invocation.entry builder values c.requires) c.requires.3 c.requires.4) c.handed_data.ensures
