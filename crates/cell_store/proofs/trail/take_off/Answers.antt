use Rattle.cell_store.proofs.Entries.{popped_again}
use Rattle.cell_store.proofs.trail.take_off.Goals as goal

pub returns : goal.returns
returns c = λ front last more. popped_again front c.args.trail.now c.pop-entry.new.self last c.pop-entry.result more c.pop-entry.ensures
