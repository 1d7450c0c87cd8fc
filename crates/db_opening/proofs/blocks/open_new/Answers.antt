use Rattle.db_opening.proofs.Opening.{opens_put}
use Rattle.db_opening.proofs.blocks.open_new.Goals as goal

pub returns-clause-opens : goal.returns-clause-opens
returns-clause-opens c =
    opens_put c.args.model.now c.args.block c.args.store.now c.bring_block.new.store c.add_block.new.self c.in_ok-add_block.field-0 c.in_ok-bring_block.ensures.brings
    c.in_ok-add_block.ensures.put c.requires.fresh
