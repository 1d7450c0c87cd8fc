use Rattle.eu_forest.specs.Ancestors.{ancestry}
use Rattle.nddl_hierarchy.specs.Facts.{facts_of}
use Rattle.nddl_construction.specs.Scene.{grounds_of}
use Rattle.nddl_construction.proofs.Judging.{along_same}
use Rattle.nddl_construction.proofs.outside.is_outside_field.Goals as goal

pub returns : goal.returns
returns c =
    let facts = facts_of c.args.footing.now.basis in
    along_same (grounds_of c.args.footing.now) c.args.objects.now c.args.name.now c.args.value c.in_ok-line.line.items
    c.as_slice.result.now (ancestry facts.parents c.args.entry) c.is_outside_along.result c.as_slice.ensures.value
    c.in_ok-line.ensures c.is_outside_along.ensures
