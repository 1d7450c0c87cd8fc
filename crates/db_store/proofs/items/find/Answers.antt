use Rattle.db_store.proofs.Lists.{finds_item}
use Rattle.db_store.proofs.items.find.Goals as goal

pub returns : goal.returns
returns g c = finds_item g.T.PartialEq.eq c.requires.told c.args.items.now.keys c.args.item.now c.get_index_of.result c.get_index_of.ensures.index c.get_index_of.ensures.found
