use Rattle.model_core.specs.Naming.{global_names}
use Rattle.plan_resolve.proofs.Indexing.{few_names, name_found}
use Rattle.plan_resolve.proofs.indexed.IndexedModel.global_named.Goals as goal

pub place_of-requires : goal.place_of-requires
place_of-requires c = (global_names c.self.inside.model.now, c.self.invariant.globals, few_names c.self.inside.model.now c.args.self.now c.self.view_is c.requires)

pub returns : goal.returns
returns c =
    name_found c.self.inside.model.now c.args.self.now c.args.name.now c.place_of.result c.self.view_is (c.place_of.ensures (global_names c.self.inside.model.now) c.self.invariant.globals)
