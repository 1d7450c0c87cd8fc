use Rattle.db_store.proofs.Lists.{puts_new, puts_none}
use Rattle.db_store.proofs.items.put_item.Goals as goal

pub returns-then-added : goal.returns-then-added
returns-then-added g c =
    let put = c.in_ok-number in
    puts_new g.T.PartialEq.eq c.requires.told c.args.items.now.keys c.insert_full.new.self.keys c.args.item put.number put.added
    put.ensures.keys put.ensures.index put.ensures.added c.if-added.true

pub returns-else-added : goal.returns-else-added
returns-else-added g c =
    let put = c.in_ok-number in
    puts_none g.T.PartialEq.eq c.requires.told c.args.items.now.keys c.insert_full.new.self.keys c.args.item put.number put.added
    put.ensures.keys put.ensures.index put.ensures.added c.if-added.false
