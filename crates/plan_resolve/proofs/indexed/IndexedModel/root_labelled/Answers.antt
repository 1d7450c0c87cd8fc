use Rattle.model_core.specs.Naming.{labels}
use Rattle.plan_resolve.proofs.Indexing.{few_labels, label_found}
use Rattle.plan_resolve.proofs.indexed.IndexedModel.root_labelled.Goals as goal

pub place_of-requires : goal.place_of-requires
place_of-requires c = (labels c.self.inside.model.now, c.self.invariant.roots, few_labels c.self.inside.model.now c.args.self.now c.self.view_is c.requires)

pub returns : goal.returns
returns c =
    label_found c.self.inside.model.now c.args.self.now c.args.label.now c.place_of.result c.self.view_is (c.place_of.ensures (labels c.self.inside.model.now) c.self.invariant.roots)
