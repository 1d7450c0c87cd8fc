use Rattle.std.specs.Prelude.{false}
use Rattle.nddl_symbols.specs.Scope.{named_number}
use Rattle.nddl_hierarchy.specs.Facts.{facts_of}
use Rattle.nddl_construction.specs.Scene.{Grounds, scenery_of}
use Rattle.nddl_objects.specs.Construction.{construction_of}
use Rattle.nddl_objects.specs.Made.{made_by}
use Rattle.nddl_objects.specs.Objects.{bare_scene, most_levels}
use Rattle.nddl_objects.proofs.Placing.{placed}
use Rattle.nddl_objects.proofs.objects.make_declared.Goals as goal

pub returns-clause-made : goal.returns-clause-made
returns-clause-made c =
    let facts = facts_of c.args.findings.now.basis in
    let grounds : Grounds = record { facts = facts; named_objects = c.args.named_objects.now } in
    placed (made_by most_levels grounds) grounds (scenery_of c.scene_of.result) (bare_scene c.args.decl)
    c.args.variable.now.name.text c.entry-entry.result (named_number false facts.names c.args.variable.now.name.text)
    c.args.creation.now (construction_of c.args.making.now) (construction_of c.make_new.new.making) c.make_new.result
    c.scene_of.ensures c.entry-entry.ensures.number c.make_new.ensures.made
