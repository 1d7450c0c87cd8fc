use Rattle.constraint_net.proofs.Watching.{list_less}
use Rattle.constraint_net.proofs.watchers.Watchers.trim.Goals as goal

pub returns : goal.returns
returns c =
    list_less c.self.inside.lists.items c.args.self.now c.args.variable c.args.count c.index_mut.result.now c.trim.new.list c.self.view_is c.requires c.index_mut.ensures.value c.trim.ensures
