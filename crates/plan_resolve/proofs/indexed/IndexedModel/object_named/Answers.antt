use Rattle.plan_resolve.proofs.Indexing.{object_found}
use Rattle.plan_resolve.proofs.indexed.IndexedModel.object_named.Goals as goal

pub returns : goal.returns
returns c = object_found c.self.inside.model.now c.args.self.now c.self.inside.index.now.objects c.args.word.now c.find.result c.self.view_is c.find.ensures c.self.invariant.objects
