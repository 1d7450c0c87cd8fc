use Rattle.std.proofs.Common.{arith}
use Rattle.db_fixpoint.proofs.Heeding.{way_read}
use Rattle.db_fixpoint.proofs.looking.look_at_block.Goals as goal

pub look_at_branches-requires-clause-readable : goal.look_at_branches-requires-clause-readable
look_at_branches-requires-clause-readable c =
    way_read c.args.model.now c.args.store.now c.args.unfolded c.args.number c.requires.lawful c.requires.way (omega arith)
