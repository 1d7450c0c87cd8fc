use Rattle.db_store.proofs.Lists.{found_there}
use Rattle.db_opening.proofs.Opening.{opened_stays, opened_there, opened_adds}
use Rattle.db_opening.proofs.blocks.open.Goals as goal

pub returns-then-is_some-clause-open : goal.returns-then-is_some-clause-open
returns-then-is_some-clause-open c = found_there c.args.store.now.blocks c.args.block c.find_block.result c.find_block.ensures c.if-is_some.ensures

pub returns-clause-underway : goal.returns-clause-underway
returns-clause-underway c =
    opened_stays c.args.model.now c.requires.lawful c.args.block c.args.store.now c.open_new-opened.new.store c.is_sound-2.ensures c.requires.token c.open_new-opened.result
    c.open_new-opened.ensures.opens

pub returns-clause-open : goal.returns-clause-open
returns-clause-open c =
    opened_there c.args.model.now c.requires.lawful c.args.block c.args.store.now c.open_new-opened.new.store c.is_sound-2.ensures c.open_new-opened.result c.open_new-opened.ensures.opens

pub returns-clause-adds : goal.returns-clause-adds
returns-clause-adds c =
    opened_adds c.args.model.now c.requires.lawful c.args.block c.args.store.now c.open_new-opened.new.store c.is_sound-2.ensures c.open_new-opened.result c.open_new-opened.ensures.opens
