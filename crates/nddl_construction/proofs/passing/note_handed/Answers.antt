use Rattle.std.proofs.Common.{◌∙◌, ap}
use Rattle.std.specs.Option.{option_copied}
use Rattle.nddl_symbols.specs.Finding.{earliest_fault}
use Rattle.nddl_hierarchy.specs.Facts.{facts_of}
use Rattle.nddl_construction.specs.Scene.{Scenery, grounds_of}
use Rattle.nddl_construction.specs.Passing.{constructor_scene, read_faults, super_arguments}
use Rattle.nddl_construction.proofs.Finding.{scene_there}
use Rattle.nddl_construction.proofs.passing.note_handed.Goals as goal

pub returns : goal.returns
returns c =
    let facts = facts_of c.args.footing.now.basis in
    let grounds = grounds_of c.args.footing.now in
    let invocation = c.args.invocation.now in
    let builder = invocation.builder.now in
    let values = invocation.values.now in
    let handed = option_copied c.super_arguments.result in
    let around = constructor_scene facts invocation.entry builder.constructor.now values in
    c.note_read.ensures
    ∙ (ap (λ (scene : Scenery). earliest_fault c.args.first.now (read_faults grounds scene handed))
    (c.scene-scene.ensures ∙ scene_there facts invocation.entry builder values c.requires)
    ∙ ap (λ given. earliest_fault c.args.first.now (read_faults grounds around given))
    (c.super_arguments.ensures ∙ ap super_arguments c.constructor_sets-body.ensures))
